-- The bits of a word after `&` and `!`, and after one of them was set or cleared.
use Rattle.std.proofs.Common.{◌≡◌, ℕ, ◌*◌, ◌-◌, ◌%◌, ◌^◌, ◌<◌, ◌≤◌, true, false, cond, not, ◌&&◌, eqb, ◌⊎◌, ◌≢◌, inl, inr, refl, w32, arith}
use lib.Bits.{bit_and}
use Rattle.std.specs.Int.{bit_not as lacking}
use Rattle.std.specs.Int.RustNames.{bit_or}
use Rattle.std.proofs.lemmas.Nat.Bits.{bit_at_and, bit_at_not, bit_at-lt, bit_at_above, bit_at_set_same, bit_at_set_other, bit_at_clear_same, bit_at_clear_other}
use Rattle.std.proofs.lemmas.Bool.{cases_eq, cases_lt, eq-eqb, ne_eqb}
use Rattle.std.proofs.lemmas.Bool.Decides.{nat_tests}
use Rattle.runs.specs.Bits.{bit}

-- the bits that both have
pub bit_of_and : (a b j : ℕ) → bit (bit_and a b) j ≡ (bit a j && bit b j)
bit_of_and a b j =
    let both = bit_at_and a b j in
    let x = bit_at-lt a j in
    let y = bit_at-lt b j in
    grind (arith, nat_tests)

-- what `!` leaves of a word of 32 bits
pub bit_not : (w j : ℕ) → w < 2 ^ 32 → j < 32 → bit (4294967295 - w) j ≡ not (bit w j)
bit_not w j fits l =
    let lacks = bit_at_not w32 w j fits l in
    let x = bit_at-lt w j in
    grind (arith, nat_tests)

pub bit_set : (w k j : ℕ) → k < 32 → bit (bit_or w (1 * 2 ^ k % 2 ^ 32)) j ≡ cond (eqb j k) true (bit w j)
bit_set w k j l = go (cases_eq j k)
  where
    go : (j ≡ k) ⊎ (j ≢ k) → bit (bit_or w (1 * 2 ^ k % 2 ^ 32)) j ≡ cond (eqb j k) true (bit w j)
    go (inl same) = rw (eq-eqb j k same, same, bit_at_set_same w32 w k l) refl
    go (inr other) = rw (ne_eqb j k other, bit_at_set_other w32 w k l j other) refl

pub bit_cleared : (w k j : ℕ) → w < 2 ^ 32 → k < 32 → bit (bit_and w (lacking w32 (1 * 2 ^ k % 2 ^ 32))) j ≡ cond (eqb j k) false (bit w j)
bit_cleared w k j fits l = go (cases_eq j k) (cases_lt j 32)
  where
    go : (j ≡ k) ⊎ (j ≢ k) → (j < 32) ⊎ (32 ≤ j) → bit (bit_and w (lacking w32 (1 * 2 ^ k % 2 ^ 32))) j ≡ cond (eqb j k) false (bit w j)
    go (inl same) _ = rw (eq-eqb j k same, same, bit_at_clear_same w32 w k l) refl
    go (inr other) (inl low) = rw (ne_eqb j k other, bit_at_clear_other w32 w k l j low other) refl
    go (inr other) (inr high) =
        let none = bit_at_above w 32 j fits high in
        let both = bit_of_and w (lacking w32 (1 * 2 ^ k % 2 ^ 32)) j in
        grind (arith, nat_tests)
