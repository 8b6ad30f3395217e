-- The lowest bit of a number, as `trailing_zeros` gives it and `n & (n - 1)` takes it away.
use Rattle.std.proofs.Common.{◌≡◌, ℕ, zero, suc, ◌+◌, ◌-◌, ◌*◌, ◌/◌, ◌%◌, ◌^◌, ◌<◌, ◌≤◌, min, true, false, ◌≢◌, sym, ap, ◌∙◌, subst, ⊎_elim, mod-eq_of_lt, add-mul, arith, pow_pos}
use native.Mathlib.Nat.{mod-one}
use lib.Bits.{bit_and, and_block, and_step, and_self, and_zero_l}
use lib.Count.{count_trailing_zeros, under}
use lib.Pow.{mod-pow-add, split, ones_lt}
use Rattle.std.proofs.lemmas.Bool.{cases_lt, cases_eq, eqb-true, eq-eqb}
use Rattle.runs.specs.Bits.{bit}
use Rattle.engines.proofs.Bits.{bit_half, bit_shl, bit_shl_low}

-- the lowest bit of n, which has k bits, is at t
pub record Lowest (k n t : ℕ) : Type 0 where
  pub inside : t < k
  pub here : bit n t ≡ true
  pub below : n % 2 ^ t ≡ 0

mod_half : (n k : ℕ) → n % 2 ^ suc k ≡ (n / 2 % 2 ^ k) * 2 + n % 2
mod_half n k = let q : k + 1 ≡ suc k = omega arith in ap (λ i. n % 2 ^ i) (sym q) ∙ mod-pow-add n k 1

lowest : (k n : ℕ) → (n % 2 ^ k ≡ 0 → ⊥) → Lowest k n (count_trailing_zeros k n)
unfolding count_trailing_zeros
lowest zero n ne = absurd (ne (mod-one n))
lowest (suc k) n ne = ⊎_elim
    (λ (e : n % 2 ≡ 0).
    let h = lowest k (n / 2) (λ z. ne (mod_half n k ∙ omega arith)) in
    let t = count_trailing_zeros k (n / 2) in
    subst (λ d. Lowest (suc k) n (under d t)) (sym e)
    (record { inside = omega (arith, h.inside); here = bit_half n t ∙ h.here; below = mod_half n t ∙ omega (arith, h.below) }))
    (λ (e : n % 2 ≡ 0 → ⊥).
    let o : n % 2 ≡ 1 = omega arith in
    subst (λ d. Lowest (suc k) n (under d (count_trailing_zeros k (n / 2)))) (sym o)
    (record { inside = omega arith; here = eq-eqb (n / 2 ^ 0 % 2) 1 (omega arith); below = mod-one n }))
    (cases_eq (n % 2) 0)

pub low_bit : (k n : ℕ) → n ≢ 0 → n < 2 ^ k → Lowest k n (count_trailing_zeros k n)
low_bit k n ne l = lowest k n (λ z. ne (sym (mod-eq_of_lt l) ∙ z))

-- the number without its lowest bit
module _ (k n t : ℕ) (low : Lowest k n t) where
  half : ℕ
  half = n / 2 ^ t / 2

  whole : n ≡ (half * 2 + 1) * 2 ^ t
  unfolding half
  whole =
      let a : n / 2 ^ t ≡ half * 2 + 1 = omega (arith, eqb-true (n / 2 ^ t % 2) 1 low.here) in
      sym (split n t) ∙ omega (arith, low.below, ap (λ a. a * 2 ^ t) a)

  less : n - 1 ≡ (half * 2) * 2 ^ t + (2 ^ t - 1)
  less = omega (arith, whole, add-mul (half * 2) 1 (2 ^ t), pow_pos t)

  dropped : bit_and n (n - 1) ≡ (half * 2) * 2 ^ t
  dropped =
      let b : bit_and ((half * 2 + 1) * 2 ^ t + 0) ((half * 2) * 2 ^ t + (2 ^ t - 1)) ≡ bit_and (half * 2 + 1) (half * 2) * 2 ^ t + bit_and 0 (2 ^ t - 1)
      = and_block t (half * 2 + 1) (half * 2) 0 (2 ^ t - 1) (pow_pos t) (ones_lt t) in
      let q : (half * 2 + 1) / 2 ≡ half = omega arith in
      let q' : half * 2 / 2 ≡ half = omega arith in
      let s : bit_and (half * 2 + 1) (half * 2) ≡ half * 2 =
      and_step (half * 2 + 1) (half * 2) ∙ ap (λ x. bit_and x (half * 2 / 2) * 2 + min ((half * 2 + 1) % 2) (half * 2 % 2)) q ∙ ap (λ x. bit_and half x * 2 + min ((half * 2 + 1) % 2) (half * 2 % 2)) q'
      ∙ ap (λ x. x * 2 + min ((half * 2 + 1) % 2) (half * 2 % 2)) (and_self half) ∙ omega arith in
      let z : (half * 2 + 1) * 2 ^ t + 0 ≡ n = omega (arith, whole) in
      ap (λ x. bit_and x (n - 1)) (sym z) ∙ ap (bit_and ((half * 2 + 1) * 2 ^ t + 0)) less ∙ b ∙ ap (λ x. x * 2 ^ t + bit_and 0 (2 ^ t - 1)) s ∙ omega (arith, and_zero_l (2 ^ t - 1))

  even : bit (half * 2) 0 ≡ false
  even = let e : half * 2 ≡ half * 2 ^ 1 = omega arith in ap (λ x. bit x 0) e ∙ bit_shl_low half 1 0 (omega arith)

  pub drop_here : bit (bit_and n (n - 1)) t ≡ false
  drop_here =
      let e : t + 0 ≡ t = omega arith in
      ap (λ x. bit x t) dropped ∙ ap (bit ((half * 2) * 2 ^ t)) (sym e) ∙ bit_shl (half * 2) t 0 ∙ even

  pub drop_other : (i : ℕ) → i ≢ t → bit (bit_and n (n - 1)) i ≡ bit n i
  drop_other i ne = ap (λ x. bit x i) dropped ∙ ⊎_elim
      (λ (l : i < t). bit_shl_low (half * 2) t i l ∙ sym (bit_shl_low (half * 2 + 1) t i l))
      (λ (l : t ≤ i).
      let d = i - t - 1 in
      let e : i ≡ t + suc d = omega arith in
      let q : (half * 2 + 1) / 2 ≡ half * 2 / 2 = omega arith in
      let up : (a : ℕ) → bit (a * 2 ^ t) i ≡ bit (a / 2) d = λ a. ap (bit (a * 2 ^ t)) e ∙ bit_shl a t (suc d) ∙ bit_half a d in
      up (half * 2) ∙ ap (λ x. bit x d) (sym q) ∙ sym (up (half * 2 + 1)))
      (cases_lt i t) ∙ ap (λ x. bit x i) (sym whole)
