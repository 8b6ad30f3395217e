-- Bits of shifted and joined words.
use Rattle.std.proofs.Common.{◌≡◌, ℕ, ◌+◌, ◌-◌, ◌*◌, ◌%◌, ◌^◌, ◌<◌, ◌≤◌, true, false, ◌⊎◌, sym, ap, ◌∙◌, inl, inr, ⊎_elim, arith}
use lib.Bits.{bit_or}
use Rattle.std.proofs.lemmas.Bool.{cases_Bool}
use Rattle.runs.specs.Bits.{bit}
use Rattle.engines.proofs.Bits.{bit_shl, bit_shl_low, bit_mod, or_on, or_off}

-- a shift to the left in a word of k bits
pub shl_bit : (k n s i : ℕ) → i < k → s ≤ i → bit ((n * 2 ^ s) % 2 ^ k) i ≡ bit n (i - s)
shl_bit k n s i l h =
    let e : s + (i - s) ≡ i = omega arith in
    bit_mod k (n * 2 ^ s) i l ∙ ap (bit (n * 2 ^ s)) (sym e) ∙ bit_shl n s (i - s)

pub shl_low : (k n s i : ℕ) → i < k → i < s → bit ((n * 2 ^ s) % 2 ^ k) i ≡ false
shl_low k n s i l h = bit_mod k (n * 2 ^ s) i l ∙ bit_shl_low n s i h

-- a bit of either word
pub or_left : (a b i : ℕ) → bit a i ≡ true → bit (bit_or a b) i ≡ true
or_left a b i e = ⊎_elim (λ (t : bit b i ≡ true). or_on a b i t) (λ (f : bit b i ≡ false). or_off a b i f ∙ e) (cases_Bool (bit b i))

pub or_either : (a b i : ℕ) → bit (bit_or a b) i ≡ true → (bit a i ≡ true) ⊎ (bit b i ≡ true)
or_either a b i e = ⊎_elim (λ (t : bit b i ≡ true). inr t) (λ (f : bit b i ≡ false). inl (sym (or_off a b i f) ∙ e)) (cases_Bool (bit b i))
