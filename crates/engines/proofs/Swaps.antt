-- A swap by exclusive ors.
use Rattle.std.proofs.Common.{◌≡◌, ℕ, ◌+◌, ◌-◌, ◌*◌, ◌/◌, ◌%◌, ◌^◌, ◌<◌, ◌≤◌, min, true, false, ◌≢◌, List, length, get_or, set, sym, ap, ◌∙◌, ⊎_elim, arith, length-set, get_or-set_other, get_or-set_same}
use lib.Bits.{bit_and, bit_xor}
use Rattle.std.proofs.lemmas.Nat.Bits.{bit_at_and, bit_at_xor}
use Rattle.std.proofs.lemmas.Bool.{cases_Bool}
use Rattle.runs.specs.Bits.{bit}
use Rattle.engines.proofs.Bits.{digit, one, naught, same, bit_shr}
use Rattle.engines.specs.Turns.{Swapped}
use Rattle.engines.proofs.Shifts.{shl_bit, shl_low}

-- where two bits are the same, so are they as numbers
alike : (v w i j : ℕ) → bit v i ≡ bit w j → digit v i ≡ digit w j
alike v w i j e = ⊎_elim
    (λ (t : bit v i ≡ true). one v i t ∙ sym (one w j (sym e ∙ t)))
    (λ (f : bit v i ≡ false). naught v i f ∙ sym (naught w j (sym e ∙ f)))
    (cases_Bool (bit v i))

module _ (x y by mask : ℕ) where
  abbrev changed : ℕ
  changed = bit_and (bit_xor (x / 2 ^ by) y) mask

  changed_digit : (c : ℕ) → digit changed c ≡ min ((digit x (by + c) + digit y c) % 2) (digit mask c)
  changed_digit c = bit_at_and (bit_xor (x / 2 ^ by) y) mask c
      ∙ ap (λ n. min n (digit mask c)) (bit_at_xor (x / 2 ^ by) y c ∙ ap (λ n. (n + digit y c) % 2) (alike (x / 2 ^ by) x c (by + c) (bit_shr x by c)))

  abbrev lifted : ℕ
  lifted = (changed * 2 ^ by) % 2 ^ 64

  lifted_digit : (c : ℕ) → by + c < 64 → digit lifted (by + c) ≡ digit changed c
  lifted_digit c l =
      let q : by + c - by ≡ c = omega arith in
      let g : by ≤ by + c = omega arith in
      alike lifted changed (by + c) c (shl_bit 64 changed by (by + c) l g ∙ ap (bit changed) q)

  below_on : (c : ℕ) → bit mask c ≡ true → bit (bit_xor y changed) c ≡ bit x (by + c)
  below_on c e = same (bit_xor y changed) x c (by + c) (omega (arith, bit_at_xor y changed c, changed_digit c, one mask c e))

  below_off : (c : ℕ) → bit mask c ≡ false → bit (bit_xor y changed) c ≡ bit y c
  below_off c e = same (bit_xor y changed) y c c (omega (arith, bit_at_xor y changed c, changed_digit c, naught mask c e))

  above_on : (c : ℕ) → by + c < 64 → bit mask c ≡ true → bit (bit_xor x lifted) (by + c) ≡ bit y c
  above_on c l e = same (bit_xor x lifted) y (by + c) c (omega (arith, bit_at_xor x lifted (by + c), lifted_digit c l, changed_digit c, one mask c e))

  above_off : (c : ℕ) → by + c < 64 → bit mask c ≡ false → bit (bit_xor x lifted) (by + c) ≡ bit x (by + c)
  above_off c l e = same (bit_xor x lifted) x (by + c) (by + c) (omega (arith, bit_at_xor x lifted (by + c), lifted_digit c l, changed_digit c, naught mask c e))

  above_start : (c : ℕ) → c < 64 → c < by → bit (bit_xor x lifted) c ≡ bit x c
  above_start c l h = same (bit_xor x lifted) x c c (omega (arith, bit_at_xor x lifted c, naught lifted c (shl_low 64 changed by c l h)))

pub swapped : (from : List ℕ) (i j by mask : ℕ) → i < length from → j < length from → i ≢ j
    → let t = bit_and (bit_xor (get_or from i 0 / 2 ^ by) (get_or from j 0)) mask in
    let half = set from j (bit_xor (get_or from j 0) t) in
    Swapped i j by mask from (set half i (bit_xor (get_or half i 0) ((t * 2 ^ by) % 2 ^ 64)))
swapped from i j by mask li lj ne =
    let x = get_or from i 0 in
    let y = get_or from j 0 in
    let t = bit_and (bit_xor (x / 2 ^ by) y) mask in
    let half = set from j (bit_xor y t) in
    let v = bit_xor (get_or half i 0) ((t * 2 ^ by) % 2 ^ 64) in
    let to = set half i v in
    let keep : get_or half i 0 ≡ x = get_or-set_other from j i (bit_xor y t) 0 ne in
    let li' : i < length half = simp length-set li in
    let ne' : j ≢ i = λ e. ne (sym e) in
    let upper : get_or to i 0 ≡ bit_xor x ((t * 2 ^ by) % 2 ^ 64) = get_or-set_same half i v 0 li' ∙ ap (λ x. bit_xor x ((t * 2 ^ by) % 2 ^ 64)) keep in
    let lower : get_or to j 0 ≡ bit_xor y t = get_or-set_other half i j v 0 ne' ∙ get_or-set_same from j (bit_xor y t) 0 lj in
    record {
      below = λ c l e. ap (λ n. bit n c) lower ∙ below_on x y by mask c e;
      below_same = λ c l e. ap (λ n. bit n c) lower ∙ below_off x y by mask c e;
      above = λ c l e. ap (λ n. bit n (by + c)) upper ∙ above_on x y by mask c l e;
      above_same = λ c l e. ap (λ n. bit n (by + c)) upper ∙ above_off x y by mask c l e;
      start = λ c l h. ap (λ n. bit n c) upper ∙ above_start x y by mask c l h;
      rest = λ q a b. get_or-set_other half i q v 0 a ∙ get_or-set_other from j q (bit_xor y t) 0 b;
    }
