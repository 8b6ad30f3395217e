-- What a table holds after one slot was marked in it.
use Rattle.std.specs.Prelude.{◌≡◌, ℕ, zero, suc, ◌<◌, ◌≤◌, Bool, false, cond, ◌⊎◌, List, length, replicate, ◌==◌, slice_index, slice_index_or, refl}
use Rattle.std.proofs.Common.{ap, ◌∙◌, inl, inr, arith}
use Rattle.std.proofs.Math.Nat.{zero-div}
use Rattle.std.proofs.lemmas.List.{get_or_past}
use Rattle.std.proofs.lemmas.Bool.{cases_lt}
use Rattle.std.proofs.lemmas.Bool.Decides.{nat_tests}
use Rattle.runs.specs.Bits.{bit}
use Rattle.signature.specs.Sets.{Put, nothing}
use Rattle.gauges.specs.Tables.{held}

pub get_or_replicate_same : {X : Type 0} (n : ℕ) (v : X) (k : ℕ) → slice_index_or (replicate n v) k v ≡ v
get_or_replicate_same zero v k = refl
get_or_replicate_same (suc n) v zero = refl
get_or_replicate_same (suc n) v (suc k) = get_or_replicate_same n v k

no_bit : (j : ℕ) → bit 0 j ≡ false
no_bit j = rw zero-div

pub none_held : (n j x : ℕ) → held (replicate n 0) j x ≡ false
none_held n j x = rw (get_or_replicate_same {X = ℕ} n 0 x) (no_bit j)

past : (table : List ℕ) (j x : ℕ) → length table ≡ 256 → 256 ≤ x → held table j x ≡ false
past table j x long h = ap (λ n. bit n j) (get_or_past table x 0 (omega arith)) ∙ no_bit j

-- each code below 256 is marked as the set has it, and the set has no number past them
pub put_codes : (old new : List ℕ) (slot : ℕ) (inside : List Bool) (set : ℕ → Bool) → length old ≡ 256 → length new ≡ 256
    → ((c : ℕ) → c < 256 → (j : ℕ) → bit (slice_index new c) j ≡ cond (j == slot) (slice_index_or inside c false) (bit (slice_index old c) j))
    → ((c : ℕ) → c < 256 → slice_index_or inside c false ≡ set c) → ((c : ℕ) → 256 ≤ c → set c ≡ false) → Put slot set (held old) (held new)
put_codes old new slot inside set a b marked low high j l x = go (cases_lt x 256)
  where
    go : (x < 256) ⊎ (256 ≤ x) → held new j x ≡ cond (j == slot) (set x) (held old j x)
    go (inl k) = marked x k j ∙ ap (λ v. cond (j == slot) v (held old j x)) (low x k)
    go (inr k) =
        let was = past old j x a k in
        let is = past new j x b k in
        let none = high x k in
        grind (arith, nat_tests)

-- the same with the set of no code
pub emptied_codes : (old new : List ℕ) (slot : ℕ) (none : List Bool) → length old ≡ 256 → length new ≡ 256
    → ((c : ℕ) → c < 256 → (j : ℕ) → bit (slice_index new c) j ≡ cond (j == slot) (slice_index_or none c false) (bit (slice_index old c) j))
    → ((c : ℕ) → slice_index_or none c false ≡ false) → Put slot nothing (held old) (held new)
emptied_codes old new slot none a b marked empty = put_codes old new slot none nothing a b marked (λ k l. empty k) (λ k l. refl)
