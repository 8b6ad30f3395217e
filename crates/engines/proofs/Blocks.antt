-- Blocks of ones, and whether a number has a bit in one.
use Rattle.std.proofs.Common.{◌≡◌, ℕ, ◌+◌, ◌-◌, ◌*◌, ◌/◌, ◌%◌, ◌^◌, ◌<◌, ◌≤◌, true, false, not, eqb, Decides, sym, ap, ◌∙◌, ⊎_elim, mod-eq_of_lt, arith, pow_pos, pow_mono, pow-add, shl_lt, shl_exact}
use lib.Bits.{bit_and, and_le_r}
use lib.Pow.{high, ones_split, ones_lt}
use Rattle.std.proofs.lemmas.Nat.{one_shl}
use Rattle.std.proofs.lemmas.Bool.{cases_lt, both_ways, not-true, eqb-false, eq-eqb, ne_eqb}
use Rattle.runs.specs.Bits.{bit}
use Rattle.engines.specs.Blocks.{block}
use Rattle.engines.proofs.Bits.{bit_zero, bit_high, bit_shl, bit_shl_low, and_on, and_both, some_bit}

bit_ones : (k e : ℕ) → e < k → bit (2 ^ k - 1) e ≡ true
bit_ones k e l =
    let j = k - e - 1 in
    let q : k ≡ (j + 1) + e = omega arith in
    let h : (2 ^ k - 1) / 2 ^ e ≡ 2 ^ (j + 1) - 1 = ap (λ n. (2 ^ n - 1) / 2 ^ e) q ∙ ap (λ n. n / 2 ^ e) (ones_split (j + 1) e) ∙ high (2 ^ (j + 1) - 1) e (ones_lt e) in
    let p : 2 ^ (j + 1) ≡ 2 ^ j * 2 = pow-add 2 j 1 in
    eq-eqb ((2 ^ k - 1) / 2 ^ e % 2) 1 (ap (λ n. n % 2) h ∙ omega (arith, pow_pos j))

pub block_in : (s k i : ℕ) → s ≤ i → i < s + k → bit (block s k) i ≡ true
block_in s k i l h =
    let e : s + (i - s) ≡ i = omega arith in
    ap (bit (block s k)) (sym e) ∙ bit_shl (2 ^ k - 1) s (i - s) ∙ bit_ones k (i - s) (omega arith)

pub block_below : (s k i : ℕ) → i < s → bit (block s k) i ≡ false
block_below s k i l = bit_shl_low (2 ^ k - 1) s i l

pub block_above : (s k i : ℕ) → s + k ≤ i → bit (block s k) i ≡ false
block_above s k i l = bit_high (block s k) i (k + s) (shl_lt k s (ones_lt k)) (omega arith)

pub block_only : (s k i : ℕ) → bit (block s k) i ≡ true → (s ≤ i) × (i < s + k)
block_only s k i b = ⊎_elim
    (λ (h : i < s). absurd (both_ways (bit (block s k) i) (block_below s k i h) b))
    (λ (h : s ≤ i). ⊎_elim
    (λ (h' : i < s + k). (h, h'))
    (λ (h' : s + k ≤ i). absurd (both_ways (bit (block s k) i) (block_above s k i h') b))
    (cases_lt i (s + k)))
    (cases_lt i s)

pub block_lt : (s k n : ℕ) → s + k ≤ n → block s k < 2 ^ n
block_lt s k n l = omega (arith, shl_lt k s (ones_lt k), pow_mono {i = k + s} {j = n} (omega arith))

-- a block, as code of n bits makes it
pub block_made : (s k n : ℕ) → s + k < n → (((1 * 2 ^ k) % 2 ^ n - 1) * 2 ^ s) % 2 ^ n ≡ block s k
block_made s k n l = ap (λ x. ((x - 1) * 2 ^ s) % 2 ^ n) (one_shl k n (omega arith)) ∙ shl_exact k s n (ones_lt k) (omega arith)

-- a number meets a block where it has a bit in it
pub meets : (n s k : ℕ) → Decides (not (eqb (bit_and n (block s k)) 0)) ((i : ℕ) × (s ≤ i) × (i < s + k) × (bit n i ≡ true))
meets n s k =
    let t = bit_and n (block s k) in
    let lt : t < 2 ^ (k + s) = omega (arith, and_le_r n (block s k), shl_lt k s (ones_lt k)) in (
      (λ b.
          let ne = eqb-false t 0 (not-true (eqb t 0) b) in
          let r = some_bit (k + s) t (λ z. ne (sym (mod-eq_of_lt lt) ∙ z)) in
          let both = and_both n (block s k) r.0 r.2 in
          let o = block_only s k r.0 both.1 in
          (r.0, o.0, o.1, both.0)),
      (λ h.
          let i = h.0 in
          let on : bit t i ≡ true = and_on n (block s k) i (block_in s k i h.1 h.2) ∙ h.3 in
          let ne : t ≡ 0 → ⊥ = λ z. both_ways (bit t i) (ap (λ x. bit x i) z ∙ bit_zero i) on in
          ap not (ne_eqb t 0 ne)),
    )
