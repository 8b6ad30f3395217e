-- A word joined with its own shifts, and the window that two such words make.
use Rattle.std.proofs.Common.{◌≡◌, ℕ, ◌+◌, ◌-◌, ◌*◌, ◌/◌, ◌%◌, ◌^◌, ◌<◌, ◌≤◌, true, cond, sym, ap, ◌∙◌, subst, ⊎_elim, arith}
use lib.Bits.{bit_or}
use Rattle.std.proofs.lemmas.Bool.{cases_lt, both_ways, lt-ltb, le-ltb}
use Rattle.runs.specs.Bits.{bit}
use Rattle.engines.proofs.Bits.{bit_high, bit_shr, or_on}
use Rattle.engines.specs.Windows.{back, Reached, Tells}
use Rattle.engines.proofs.Shifts.{shl_bit, shl_low, or_left, or_either}

-- x has the places of `from` moved up by 0 to e, in 64 bits
pub record Up (from e x : ℕ) : Type 0 where
  pub sound : (i : ℕ) → i < 64 → bit x i ≡ true → (t : ℕ) × (t ≤ e) × (t ≤ i) × (bit from (i - t) ≡ true)
  pub whole : (i t : ℕ) → i < 64 → t ≤ e → t ≤ i → bit from (i - t) ≡ true → bit x i ≡ true

-- x has the places of `from` moved down by 0 to e
pub record Down (from e x : ℕ) : Type 0 where
  pub sound : (i : ℕ) → bit x i ≡ true → (t : ℕ) × (t ≤ e) × (bit from (i + t) ≡ true)
  pub whole : (i t : ℕ) → t ≤ e → bit from (i + t) ≡ true → bit x i ≡ true

up_more : (from e x s : ℕ) → s ≤ e + 1 → Up from e x → Up from (e + s) (bit_or x ((x * 2 ^ s) % 2 ^ 64))
up_more from e x s le have =
    let y = (x * 2 ^ s) % 2 ^ 64 in
    record {
      sound = λ i l h. ⊎_elim
          (λ (b : bit x i ≡ true). let r = have.sound i l b in (r.0, omega (arith, r.1), r.2, r.3))
          (λ (b : bit y i ≡ true). ⊎_elim
          (λ (lt : i < s). absurd (both_ways (bit y i) (shl_low 64 x s i l lt) b))
          (λ (ge : s ≤ i).
          let r = have.sound (i - s) (omega arith) (sym (shl_bit 64 x s i l ge) ∙ b) in
          let q : i - (s + r.0) ≡ i - s - r.0 = omega arith in
          (s + r.0, omega (arith, r.1), omega (arith, r.2), ap (bit from) q ∙ r.3))
          (cases_lt i s))
          (or_either x y i h);
      whole = λ i t l n m h. ⊎_elim
          (λ (lt : t < e + 1). or_left x y i (have.whole i t l (omega arith) m h))
          (λ (ge : e + 1 ≤ t).
          let q : i - s - (t - s) ≡ i - t = omega arith in
          let g : s ≤ i = omega arith in
          or_on x y i (shl_bit 64 x s i l g ∙ have.whole (i - s) (t - s) (omega arith) (omega arith) (omega arith) (ap (bit from) q ∙ h)))
          (cases_lt t (e + 1));
    }

down_more : (from e x s : ℕ) → s ≤ e + 1 → Down from e x → Down from (e + s) (bit_or x (x / 2 ^ s))
down_more from e x s le have =
    let y = x / 2 ^ s in
    record {
      sound = λ i h. ⊎_elim
          (λ (b : bit x i ≡ true). let r = have.sound i b in (r.0, omega (arith, r.1), r.2))
          (λ (b : bit y i ≡ true).
          let r = have.sound (s + i) (sym (bit_shr x s i) ∙ b) in
          let q : i + (s + r.0) ≡ s + i + r.0 = omega arith in
          (s + r.0, omega (arith, r.1), ap (bit from) q ∙ r.2))
          (or_either x y i h);
      whole = λ i t n h. ⊎_elim
          (λ (lt : t < e + 1). or_left x y i (have.whole i t (omega arith) h))
          (λ (ge : e + 1 ≤ t).
          let q : s + i + (t - s) ≡ i + t = omega arith in
          or_on x y i (bit_shr x s i ∙ have.whole (s + i) (t - s) (omega arith) (ap (bit from) q ∙ h)))
          (cases_lt t (e + 1));
    }

-- by as much more as has been gone over, or less
pub up_to : (from e x s f : ℕ) → s ≤ e + 1 → e + s ≡ f → Up from e x → Up from f (bit_or x ((x * 2 ^ s) % 2 ^ 64))
up_to from e x s f l q h = subst (λ f. Up from f (bit_or x ((x * 2 ^ s) % 2 ^ 64))) q (up_more from e x s l h)

pub down_to : (from e x s f : ℕ) → s ≤ e + 1 → e + s ≡ f → Down from e x → Down from f (bit_or x (x / 2 ^ s))
down_to from e x s f l q h = subst (λ f. Down from f (bit_or x (x / 2 ^ s))) q (down_more from e x s l h)

-- the strip, and the places before it
pub back_here : (past here i : ℕ) → i < 64 → back past here i ≡ bit here i
back_here past here i l = ap (λ b. cond b (bit here i) (bit past (i - 64))) (lt-ltb i 64 l)

pub back_past : (past here i : ℕ) → back past here (64 + i) ≡ bit past i
back_past past here i =
    let ge : 64 ≤ 64 + i = omega arith in
    let e : 64 + i - 64 ≡ i = omega arith in
    ap (λ b. cond b (bit here (64 + i)) (bit past (64 + i - 64))) (le-ltb (64 + i) 64 ge) ∙ ap (bit past) e

module _ (lo hi past here later earlier : ℕ) (ordered : lo ≤ hi) (narrow : hi ≤ 63) (small : here < 2 ^ 64)
    (down : Down here (hi - lo) later) (up : Up ((past * 2 ^ (63 - hi)) % 2 ^ 64) (hi - lo) earlier) where
  abbrev window : ℕ
  window = bit_or (later / 2 ^ 1 / 2 ^ lo) earlier

  lowered : (i : ℕ) → bit (later / 2 ^ 1 / 2 ^ lo) i ≡ bit later (i + 1 + lo)
  lowered i = let e : 1 + (lo + i) ≡ i + 1 + lo = omega arith in bit_shr (later / 2 ^ 1) lo i ∙ bit_shr later 1 (lo + i) ∙ ap (bit later) e

  inside : (i : ℕ) → bit here i ≡ true → i < 64
  inside i b = ⊎_elim (λ (l : i < 64). l) (λ (g : 64 ≤ i). absurd (both_ways (bit here i) (bit_high here i 64 small g) b)) (cases_lt i 64)

  found : (i : ℕ) → i < 64 → bit window i ≡ true → Reached lo hi past here i
  found i l b = ⊎_elim
      (λ (b : bit (later / 2 ^ 1 / 2 ^ lo) i ≡ true).
      let r = down.sound (i + 1 + lo) (sym (lowered i) ∙ b) in
      let q : i + 1 + (lo + r.0) ≡ i + 1 + lo + r.0 = omega arith in
      (lo + r.0, omega arith, omega (arith, r.1), ap (back past here) q ∙ back_here past here _ (inside _ r.2) ∙ r.2))
      (λ (b : bit earlier i ≡ true).
      let r = up.sound i l b in
      let k = i - r.0 in
      ⊎_elim
      (λ (lt : k < 63 - hi). absurd (both_ways _ (shl_low 64 past (63 - hi) k (omega arith) lt) r.3))
      (λ (ge : 63 - hi ≤ k).
      let q : i + 1 + (hi - r.0) ≡ 64 + (k - (63 - hi)) = omega (arith, r.1, r.2) in
      let on : bit past (k - (63 - hi)) ≡ true = sym (shl_bit 64 past (63 - hi) k (omega arith) ge) ∙ r.3 in
      (hi - r.0, omega (arith, r.1), omega arith, ap (back past here) q ∙ back_past past here _ ∙ on))
      (cases_lt k (63 - hi)))
      (or_either (later / 2 ^ 1 / 2 ^ lo) earlier i b)

  hit : (i : ℕ) → i < 64 → Reached lo hi past here i → bit window i ≡ true
  hit i l (d, low, high, b) = ⊎_elim
      (λ (lt : i + 1 + d < 64).
      let q : i + 1 + lo + (d - lo) ≡ i + 1 + d = omega arith in
      let on : bit here (i + 1 + lo + (d - lo)) ≡ true = ap (bit here) q ∙ sym (back_here past here (i + 1 + d) lt) ∙ b in
      or_left (later / 2 ^ 1 / 2 ^ lo) earlier i (lowered i ∙ down.whole (i + 1 + lo) (d - lo) (omega arith) on))
      (λ (ge : 64 ≤ i + 1 + d).
      let q : i + 1 + d ≡ 64 + (i - (hi - d) - (63 - hi)) = omega arith in
      let g : 63 - hi ≤ i - (hi - d) = omega arith in
      let m : i - (hi - d) < 64 = omega arith in
      let on : bit past (i - (hi - d) - (63 - hi)) ≡ true = sym (ap (back past here) q ∙ back_past past here _) ∙ b in
      or_on (later / 2 ^ 1 / 2 ^ lo) earlier i (up.whole i (hi - d) l (omega arith) (omega arith) (shl_bit 64 past (63 - hi) (i - (hi - d)) m g ∙ on)))
      (cases_lt (i + 1 + d) 64)

  pub window_tells : Tells (Reached lo hi past here) window
  window_tells i l = (found i l, hit i l)
