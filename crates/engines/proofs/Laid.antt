-- What a layout has for the first gaps of a list.
use Rattle.std.proofs.Common.{◌≡◌, ℕ, zero, suc, ◌+◌, ◌-◌, ◌*◌, ◌%◌, ◌^◌, ◌<◌, ◌≢◌, List, length, get_or, set, replicate, sym, refl, ap, ◌∙◌, subst, ⊎_elim, add-one, arith, length-set, get_or-set_other, get_or-set_same, below_more}
use lib.Bits.{bit_or}
use Rattle.std.proofs.lemmas.Bool.{cases_eq}
use Rattle.std.proofs.lemmas.Nat.{one_shl}
use Rattle.runs.specs.declared.gap.Gap.{Gap}
use Rattle.runs.specs.Gaps.{low, high}
use Rattle.engines.specs.declared.layout.Field.{Field}
use Rattle.engines.specs.Blocks.{block}
use Rattle.engines.specs.Fields.{offset, kept, no_field, window_at, start_at, Begun, Idle, Opened}

-- the fields of the first j gaps are laid out, up to the bit `at`
pub record Laid (gs : List Gap) (j at keep : ℕ) (fields : List Field) : Type 0 where
  pub here : at ≡ offset gs j
  pub keeps : keep ≡ kept gs j
  pub many : length fields ≡ 32
  pub begun : Begun gs j fields
  pub idle : Idle j fields
  pub opened : Opened gs j fields

-- an array of equal elements
pub all_same : {X : Type 0} (n i : ℕ) (x : X) → get_or (replicate n x) i x ≡ x
all_same zero i x = refl
all_same (suc n) zero x = refl
all_same (suc n) (suc i) x = all_same n i x

pub laid_none : (gs : List Gap) → Laid gs 0 0 0 (replicate 32 no_field)
laid_none gs = record {
  here = refl;
  keeps = refl;
  many = refl;
  begun = λ i l. let z : ⊥ = omega arith in absurd z;
  idle = λ i _. ap (λ (f : Field). f.start) (all_same 32 i no_field);
  opened = λ i l. let z : ⊥ = omega arith in absurd z;
}

-- a field whose start or window alone is written
module _ (fields : List Field) (t v : ℕ) (l : t < length fields) where
  abbrev with_start : Field
  with_start = record { window = window_at fields t; start = v }

  abbrev with_window : Field
  with_window = record { window = v; start = start_at fields t }

  window_same : (i : ℕ) → window_at (set fields t with_start) i ≡ window_at fields i
  window_same i = ⊎_elim
      (λ (e : i ≡ t). subst (λ i. window_at (set fields t with_start) i ≡ window_at fields i) (sym e) (ap (λ (f : Field). f.window) (get_or-set_same fields t with_start no_field l)))
      (λ (ne : i ≡ t → ⊥). ap (λ (f : Field). f.window) (get_or-set_other fields t i with_start no_field ne))
      (cases_eq i t)

  start_same : (i : ℕ) → start_at (set fields t with_window) i ≡ start_at fields i
  start_same i = ⊎_elim
      (λ (e : i ≡ t). subst (λ i. start_at (set fields t with_window) i ≡ start_at fields i) (sym e) (ap (λ (f : Field). f.start) (get_or-set_same fields t with_window no_field l)))
      (λ (ne : i ≡ t → ⊥). ap (λ (f : Field). f.start) (get_or-set_other fields t i with_window no_field ne))
      (cases_eq i t)

-- one gap more
module _ (gs : List Gap) (j at keep : ℕ) (fields : List Field) (few : j < 31) (near : at < 64) (have : Laid gs j at keep fields) where
  pub laid_more : (top window : ℕ) → top ≡ block at (high gs j) → window ≡ block (at + low gs j) (high gs j - low gs j + 1)
      → let start = (1 * 2 ^ at) % 2 ^ 64 in
      let one = set fields j (record { window = window_at fields j; start = start }) in
      Laid gs (j + 1) (at + (high gs j + 1)) (bit_or keep top) (set one (j + 1) (record { window = window; start = start_at one (j + 1) }))
  laid_more top window t w =
      let start = (1 * 2 ^ at) % 2 ^ 64 in
      let f : Field = record { window = window_at fields j; start = start } in
      let one = set fields j f in
      let g : Field = record { window = window; start = start_at one (j + 1) } in
      let two = set one (j + 1) g in
      let l : j < length fields = omega (arith, have.many) in
      let long : length one ≡ 32 = simp length-set have.many in
      let m : j + 1 < length one = omega (arith, long) in
      let begins : (i : ℕ) → start_at two i ≡ start_at one i = start_same one (j + 1) window m in
      let opens : (i : ℕ) → i ≢ j + 1 → window_at two i ≡ window_at fields i = λ i ne. ap (λ (f : Field). f.window) (get_or-set_other one (j + 1) i g no_field ne) ∙ window_same fields j start l i in
      let old : (i : ℕ) → i ≢ j → start_at two i ≡ start_at fields i = λ i ne. begins i ∙ ap (λ (f : Field). f.start) (get_or-set_other fields j i f no_field ne) in
      record {
        here = omega (arith, ap (offset gs) (add-one j), have.here);
        keeps = let k = ap (kept gs) (add-one j) in cc (k, t, have.keeps, have.here);
        many = simp length-set have.many;
        begun = below_more (λ i. start_at two i ≡ 2 ^ offset gs i) j
            (λ i l. let ne : i ≢ j = omega arith in old i ne ∙ have.begun i l)
            (begins j ∙ ap (λ (f : Field). f.start) (get_or-set_same fields j f no_field l) ∙ one_shl at 64 near ∙ ap (λ n. 2 ^ n) have.here);
        idle = λ i l. let ne : i ≢ j = omega arith in old i ne ∙ have.idle i (omega arith);
        opened = below_more (λ i. window_at two (suc i) ≡ block (offset gs i + low gs i) (high gs i - low gs i + 1)) j
            (λ i l. let ne : suc i ≢ j + 1 = omega arith in opens (suc i) ne ∙ have.opened i l)
            (ap (window_at two) (sym (add-one j)) ∙ ap (λ (f : Field). f.window) (get_or-set_same one (j + 1) g no_field m) ∙ w ∙ ap (λ n. block (n + low gs j) (high gs j - low gs j + 1)) have.here);
      }
