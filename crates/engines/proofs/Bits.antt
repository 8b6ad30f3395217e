-- Single bits of numbers.
use Rattle.std.proofs.Common.{◌≡◌, ℕ, zero, suc, ◌+◌, ◌-◌, ◌*◌, ◌/◌, ◌%◌, ◌^◌, ◌<◌, ◌≤◌, min, max, true, false, eqb, ◌≢◌, sym, ap, ◌∙◌, subst, ⊎_elim, mul_assoc, one-mul, arith, pow_pos, pow_mono, pow-add, shr-shr}
use native.Mathlib.Nat.{div-eq_of_lt, mod-one}
use lib.Bits.{bit_and, bit_or, and_step, and_shr, or_step, or_shr}
use lib.Pow.{pow-lt, shl-shr, mod-pow-add, field, mod-mod-pow}
use Rattle.std.proofs.lemmas.Nat.{one_shl, mod_below}
use Rattle.std.proofs.lemmas.Bool.{cases_lt, cases_eq, eqb-true, eqb-false, eq-eqb, ne_eqb}
use Rattle.runs.specs.Bits.{bit}

-- the bit as a number
abbrev pub digit : ℕ → ℕ → ℕ
digit w j = w / 2 ^ j % 2

pub one : (w j : ℕ) → bit w j ≡ true → digit w j ≡ 1
one w j = eqb-true (digit w j) 1

pub naught : (w j : ℕ) → bit w j ≡ false → digit w j ≡ 0
naught w j e = let ne = eqb-false (digit w j) 1 e in ⊎_elim (λ (q : digit w j ≡ 1). absurd (ne q)) (λ (q : digit w j ≡ 1 → ⊥). omega arith) (cases_eq (digit w j) 1)

is_one : (w j : ℕ) → digit w j ≡ 1 → bit w j ≡ true
is_one w j = eq-eqb (digit w j) 1

is_naught : (w j : ℕ) → digit w j ≡ 0 → bit w j ≡ false
is_naught w j e = ne_eqb (digit w j) 1 (λ q. omega arith)

pub same : (v w i j : ℕ) → digit v i ≡ digit w j → bit v i ≡ bit w j
same v w i j e = ap (λ n. eqb n 1) e

-- no bit past the width
pub bit_high : (w i k : ℕ) → w < 2 ^ k → k ≤ i → bit w i ≡ false
bit_high w i k l h = let e : w / 2 ^ i ≡ 0 = div-eq_of_lt (omega (arith, pow_mono h)) in is_naught w i (ap (λ n. n % 2) e)

pub bit_zero : (j : ℕ) → bit 0 j ≡ false
bit_zero j = bit_high 0 j 0 (omega arith) (omega arith)

-- the bits of both, and of either
pub digit_and : (a b j : ℕ) → digit (bit_and a b) j ≡ min (digit a j) (digit b j)
digit_and a b j = ap (λ n. n % 2) (and_shr a b j) ∙ omega (arith, and_step (a / 2 ^ j) (b / 2 ^ j))

digit_or : (a b j : ℕ) → digit (bit_or a b) j ≡ max (digit a j) (digit b j)
digit_or a b j = ap (λ n. n % 2) (or_shr a b j) ∙ omega (arith, or_step (a / 2 ^ j) (b / 2 ^ j))

pub and_on : (a b j : ℕ) → bit b j ≡ true → bit (bit_and a b) j ≡ bit a j
and_on a b j e = same (bit_and a b) a j j (omega (arith, digit_and a b j, one b j e))

pub and_off : (a b j : ℕ) → bit b j ≡ false → bit (bit_and a b) j ≡ false
and_off a b j e = is_naught (bit_and a b) j (omega (arith, digit_and a b j, naught b j e))

pub and_both : (a b j : ℕ) → bit (bit_and a b) j ≡ true → (bit a j ≡ true) × (bit b j ≡ true)
and_both a b j e =
    let h = one (bit_and a b) j e in
    let both = digit_and a b j in
    (is_one a j (omega arith), is_one b j (omega arith))

pub or_on : (a b j : ℕ) → bit b j ≡ true → bit (bit_or a b) j ≡ true
or_on a b j e = is_one (bit_or a b) j (omega (arith, digit_or a b j, one b j e))

pub or_off : (a b j : ℕ) → bit b j ≡ false → bit (bit_or a b) j ≡ bit a j
or_off a b j e = same (bit_or a b) a j j (omega (arith, digit_or a b j, naught b j e))

pub or_off_left : (a b j : ℕ) → bit a j ≡ false → bit (bit_or a b) j ≡ bit b j
or_off_left a b j e = same (bit_or a b) b j j (omega (arith, digit_or a b j, naught a j e))

-- a shift moves the bits
pub bit_shl : (a s e : ℕ) → bit (a * 2 ^ s) (s + e) ≡ bit a e
bit_shl a s e = ap (λ n. eqb (n % 2) 1) (sym (shr-shr (a * 2 ^ s) s e) ∙ ap (λ n. n / 2 ^ e) (shl-shr a s))

pub bit_shl_low : (a s i : ℕ) → i < s → bit (a * 2 ^ s) i ≡ false
bit_shl_low a s i l =
    let d = s - i - 1 in
    let e : s ≡ (d + 1) + i = omega arith in
    let p : 2 ^ s ≡ 2 ^ d * 2 * 2 ^ i = ap (λ n. 2 ^ n) e ∙ pow-add 2 (d + 1) i ∙ ap (λ n. n * 2 ^ i) (pow-add 2 d 1) in
    let q : a * 2 ^ s ≡ (a * 2 ^ d * 2) * 2 ^ i = ap (λ n. a * n) p ∙ sym (mul_assoc a (2 ^ d * 2) (2 ^ i)) ∙ ap (λ n. n * 2 ^ i) (sym (mul_assoc a (2 ^ d) 2)) in
    let h : a * 2 ^ s / 2 ^ i ≡ a * 2 ^ d * 2 = ap (λ n. n / 2 ^ i) q ∙ shl-shr (a * 2 ^ d * 2) i in
    is_naught (a * 2 ^ s) i (ap (λ n. n % 2) h ∙ omega arith)

pub bit_shr : (n s i : ℕ) → bit (n / 2 ^ s) i ≡ bit n (s + i)
bit_shr n s i = ap (λ x. eqb (x % 2) 1) (shr-shr n s i)

pub bit_half : (n i : ℕ) → bit n (suc i) ≡ bit (n / 2) i
bit_half n i = let q : 1 + i ≡ suc i = omega arith in ap (bit n) (sym q) ∙ sym (bit_shr n 1 i)

-- the bits below k are those of the remainder by 2 ^ k
pub bit_mod : (k n i : ℕ) → i < k → bit (n % 2 ^ k) i ≡ bit n i
bit_mod k n i l =
    let j = k - i - 1 in
    let e : (j + 1) + i ≡ k = omega arith in
    let f : n % 2 ^ ((j + 1) + i) / 2 ^ i ≡ n / 2 ^ i % 2 ^ (j + 1) = field n (j + 1) i in
    ap (λ x. eqb x 1) (ap (λ k. n % 2 ^ k / 2 ^ i % 2) (sym e) ∙ ap (λ x. x % 2) f ∙ mod-mod-pow (n / 2 ^ i) j 1)

-- one bit more of a remainder
pub mod_bit : (n j : ℕ) → bit (n % 2 ^ (j + 1)) j ≡ bit n j
mod_bit n j = bit_mod (j + 1) n j (omega arith)

pub mod_other : (n j i : ℕ) → i ≢ j → bit (n % 2 ^ (j + 1)) i ≡ bit (n % 2 ^ j) i
mod_other n j i ne = ⊎_elim
    (λ (l : i < j). bit_mod (j + 1) n i (omega arith) ∙ sym (bit_mod j n i l))
    (λ (l : j ≤ i). bit_high (n % 2 ^ (j + 1)) i (j + 1) (mod_below n (2 ^ (j + 1)) (pow_pos (j + 1))) (omega arith) ∙ sym (bit_high (n % 2 ^ j) i j (mod_below n (2 ^ j) (pow_pos j)) l))
    (cases_lt i j)

pub mod_skip : (n j i : ℕ) → bit n j ≡ false → bit (n % 2 ^ j) i ≡ bit (n % 2 ^ (j + 1)) i
mod_skip n j i z = ⊎_elim
    (λ (e : i ≡ j). subst (λ i. bit (n % 2 ^ j) i ≡ bit (n % 2 ^ (j + 1)) i) (sym e) (bit_high (n % 2 ^ j) j j (mod_below n (2 ^ j) (pow_pos j)) (omega arith) ∙ sym (mod_bit n j ∙ z)))
    (λ (ne : i ≡ j → ⊥). sym (mod_other n j i ne))
    (cases_eq i j)

-- a shift by one in k bits
pub double_low : (k x : ℕ) → 0 < k → bit ((x * 2) % 2 ^ k) 0 ≡ false
double_low k x l = bit_mod k (x * 2) 0 l ∙ bit_shl_low x 1 0 (omega arith)

pub double_suc : (k x p : ℕ) → suc p < k → bit ((x * 2) % 2 ^ k) (suc p) ≡ bit x p
double_suc k x p l =
    let e : 1 + p ≡ suc p = omega arith in
    bit_mod k (x * 2) (suc p) l ∙ ap (bit (x * 2)) (sym e) ∙ bit_shl x 1 p

-- one bit alone
pub bit_pow_same : (j : ℕ) → bit (2 ^ j) j ≡ true
bit_pow_same j = let e : 2 ^ j / 2 ^ j ≡ 1 = rw one-mul at (shl-shr 1 j) in is_one (2 ^ j) j (ap (λ n. n % 2) e)

pub bit_pow_other : (i j : ℕ) → i ≢ j → bit (2 ^ j) i ≡ false
bit_pow_other i j ne = ⊎_elim
    (λ (h : i < j). subst (λ n. bit n i ≡ false) (one-mul (2 ^ j)) (bit_shl_low 1 j i h))
    (λ (h : j ≤ i). let l : j < i = omega arith in bit_high (2 ^ j) i i (pow-lt l) (omega arith))
    (cases_lt i j)

-- a number of k bits that is not 0 has a bit
none_yet : (n k : ℕ) → bit n k ≡ false → n % 2 ^ k ≡ 0 → n % 2 ^ suc k ≡ 0
none_yet n k z q =
    let e : 1 + k ≡ suc k = omega arith in
    let h : n % 2 ^ (1 + k) ≡ digit n k * 2 ^ k + n % 2 ^ k = mod-pow-add n 1 k in
    let h' : digit n k * 2 ^ k ≡ 0 = ap (λ b. b * 2 ^ k) (naught n k z) ∙ omega arith in
    ap (λ i. n % 2 ^ i) (sym e) ∙ omega arith

pub some_bit : (k n : ℕ) → (n % 2 ^ k ≡ 0 → ⊥) → (i : ℕ) × (i < k) × (bit n i ≡ true)
some_bit zero n ne = absurd (ne (mod-one n))
some_bit (suc k) n ne = ⊎_elim
    (λ (e : digit n k ≡ 1). (k, omega arith, is_one n k e))
    (λ (e : digit n k ≡ 1 → ⊥).
    let r = some_bit k n (λ q. ne (none_yet n k (ne_eqb (digit n k) 1 e) q)) in
    (r.0, omega (arith, r.1), r.2))
    (cases_eq (digit n k) 1)

-- a bit that is set, in a word of k bits
pub set_same : (k w t : ℕ) → t < k → bit (bit_or w ((1 * 2 ^ t) % 2 ^ k)) t ≡ true
set_same k w t l = or_on w ((1 * 2 ^ t) % 2 ^ k) t (ap (λ n. bit n t) (one_shl t k l) ∙ bit_pow_same t)

pub set_other : (k w t i : ℕ) → t < k → i ≢ t → bit (bit_or w ((1 * 2 ^ t) % 2 ^ k)) i ≡ bit w i
set_other k w t i l ne = or_off w ((1 * 2 ^ t) % 2 ^ k) i (ap (λ n. bit n i) (one_shl t k l) ∙ bit_pow_other i t ne)
