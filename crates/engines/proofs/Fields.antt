-- Fields of a word: where they lie, and what a shift by one leaves in them.
use Rattle.std.proofs.Common.{◌≡◌, ℕ, zero, suc, ◌+◌, ◌-◌, ◌*◌, ◌%◌, ◌^◌, ◌<◌, ◌≤◌, true, false, not, eqb, ◌≢◌, List, [], ◌∷◌, length, Decides, sym, refl, ap, ◌∙◌, subst, ⊎_elim, arith}
use lib.Bits.{bit_and, bit_or, or_zero_r}
use Rattle.std.proofs.lemmas.Bool.{cases_lt, cases_order, cases_eq}
use Rattle.runs.specs.declared.gap.Gap.{Gap}
use Rattle.runs.specs.declared.signature.Signature.{Signature}
use Rattle.runs.specs.Gaps.{low, high, spans}
use Rattle.runs.specs.Signatures.{gaps_of}
use Rattle.runs.specs.Bits.{bit}
use Rattle.engines.specs.Blocks.{block}
use Rattle.engines.specs.declared.layout.Field.{Field}
use Rattle.engines.specs.Fields.{offset, fields_say, kept, window_at, Opened}
use Rattle.engines.specs.Memory.{Memory, Seen, Moved}
use Rattle.engines.proofs.Bits.{bit_zero, bit_high, and_on, and_off, or_on, or_off, or_off_left, double_low, double_suc, bit_pow_same, bit_pow_other}
use Rattle.engines.proofs.Blocks.{block_in, block_below, block_above, meets}

module _ (gs : List Gap) where
  -- the fields do not meet
  offset_le : (i j : ℕ) → i ≤ j → offset gs i ≤ offset gs j
  offset_le i zero l = let e : i ≡ 0 = omega arith in subst (λ n. offset gs n ≤ 0) (sym e) (omega arith)
  offset_le i (suc j) l = ⊎_elim
      (λ (h : i < suc j). omega (arith, offset_le i j (omega arith)))
      (λ (h : suc j ≤ i). let e : i ≡ suc j = omega arith in subst (λ n. offset gs n ≤ offset gs (suc j)) (sym e) (omega arith))
      (cases_lt i (suc j))

  pub field_end : (i n d : ℕ) → i < n → d ≤ high gs i → offset gs i + d < offset gs n
  field_end i n d l h = omega (arith, offset_le (suc i) n l)

  -- a bit of field i that is not the first of field j
  beside : (i j d : ℕ) → d ≤ high gs i → (i ≡ j → 0 < d) → offset gs i + d ≢ offset gs j
  beside i j d h off = ⊎_elim
      (λ (e : i ≡ j). omega (arith, ap (offset gs) e, off e))
      (⊎_elim (λ (l : i < j). omega (arith, field_end i j d l h)) (λ (l : j < i). omega (arith, field_end j i 0 l (omega arith))))
      (cases_order i j)

  -- all but the top bits
  kept_in : (n j d : ℕ) → j < n → d < high gs j → bit (kept gs n) (offset gs j + d) ≡ true
  kept_in zero j d l h = let z : ⊥ = omega arith in absurd z
  kept_in (suc n) j d l h =
      let i = offset gs j + d in
      let b = block (offset gs n) (high gs n) in
      ⊎_elim
      (λ (e : n ≡ j). or_on (kept gs n) b i (subst (λ n. bit (block (offset gs n) (high gs n)) i ≡ true) (sym e) (block_in (offset gs j) (high gs j) i (omega arith) (omega arith))))
      (⊎_elim
      (λ (k : n < j). let z : ⊥ = omega arith in absurd z)
      (λ (k : j < n). or_off (kept gs n) b i (block_below (offset gs n) (high gs n) i (field_end j n d k (omega arith))) ∙ kept_in n j d k h))
      (cases_order n j)

  kept_top : (n j : ℕ) → bit (kept gs n) (offset gs j + high gs j) ≡ false
  kept_top zero j = bit_zero (offset gs j + high gs j)
  kept_top (suc n) j =
      let i = offset gs j + high gs j in
      let b = block (offset gs n) (high gs n) in
      let off : bit b i ≡ false = ⊎_elim
      (λ (e : n ≡ j). subst (λ n. bit (block (offset gs n) (high gs n)) i ≡ false) (sym e) (block_above (offset gs j) (high gs j) i (omega arith)))
      (⊎_elim
      (λ (l : n < j). block_above (offset gs n) (high gs n) i (omega (arith, field_end n j (high gs n) l (omega arith))))
      (λ (l : j < n). block_below (offset gs n) (high gs n) i (field_end j n (high gs j) l (omega arith))))
      (cases_order n j) in
      or_off (kept gs n) b i off ∙ kept_top n j

-- the offsets end where the gaps do
offset_cons : (g : Gap) (gs : List Gap) (j : ℕ) → offset (g ∷ gs) (suc j) ≡ (g.hi + 1) + offset gs j
offset_cons g gs zero = omega arith
offset_cons g gs (suc j) = omega (arith, offset_cons g gs j)

pub spans_offset : (gs : List Gap) → offset gs (length gs) ≡ spans gs
spans_offset [] = refl
spans_offset (g ∷ gs) = offset_cons g gs (length gs) ∙ omega (arith, spans_offset gs)

-- the field of gap j lies within the first 63 bits
pub inside : (gs : List Gap) (j d : ℕ) → 1 + spans gs ≤ 64 → j < length gs → d ≤ high gs j → offset gs j + d < 63
inside gs j d near l h = omega (arith, spans_offset gs, field_end gs j (length gs) d l h)

-- a word whose fields are those of a signature
module _ (s : Signature) (room : offset (gaps_of s) (s.slots - 1) ≤ 63) (from : ℕ) where
  -- the word, moved by one place
  moved : ℕ
  moved = (bit_and from (kept (gaps_of s) (s.slots - 1)) * 2) % 2 ^ 64

  moved_clear : (j : ℕ) → suc j < s.slots → fields_say (gaps_of s) moved j 0 ≡ false
  unfolding moved
  moved_clear zero l = double_low 64 (bit_and from (kept (gaps_of s) (s.slots - 1))) (omega arith)
  moved_clear (suc j) l =
      let n = s.slots - 1 in
      let x = bit_and from (kept (gaps_of s) n) in
      let p = offset (gaps_of s) j + high (gaps_of s) j in
      let e : offset (gaps_of s) (suc j) + 0 ≡ suc p = omega arith in
      let h : suc p < 64 = omega (arith, field_end (gaps_of s) (suc j) n 0 (omega arith) (omega arith)) in
      ap (bit ((x * 2) % 2 ^ 64)) e ∙ double_suc 64 x p h ∙ and_off from (kept (gaps_of s) n) p (kept_top (gaps_of s) n j)

  moved_older : (j d : ℕ) → suc j < s.slots → suc d ≤ high (gaps_of s) j → fields_say (gaps_of s) moved j (suc d) ≡ fields_say (gaps_of s) from j d
  unfolding moved
  moved_older j d l h =
      let n = s.slots - 1 in
      let x = bit_and from (kept (gaps_of s) n) in
      let p = offset (gaps_of s) j + d in
      let e : offset (gaps_of s) j + suc d ≡ suc p = omega arith in
      let k : suc p < 64 = omega (arith, field_end (gaps_of s) j n d (omega arith) (omega arith)) in
      ap (bit ((x * 2) % 2 ^ 64)) e ∙ double_suc 64 x p k ∙ and_on from (kept (gaps_of s) n) p (kept_in (gaps_of s) n j d (omega arith) h)

  -- it has taken the word w, which has no bit but the first
  first : (w : ℕ) → w < 2 ^ 1 → Moved s (fields_say (gaps_of s) from) w (fields_say (gaps_of s) (bit_or moved w))
  first w small = record {
    newest = newest;
    older = λ j d l h. or_off moved w (offset (gaps_of s) j + suc d) (bit_high w (offset (gaps_of s) j + suc d) 1 small (omega arith)) ∙ moved_older j d l h;
  }
    where
      newest : (j : ℕ) → suc j < s.slots → fields_say (gaps_of s) (bit_or moved w) j 0 ≡ bit w j
      newest zero l = or_off_left moved w 0 (moved_clear 0 l)
      newest (suc j) l =
          or_off moved w (offset (gaps_of s) (suc j) + 0) (bit_high w (offset (gaps_of s) (suc j) + 0) 1 small (omega arith)) ∙ moved_clear (suc j) l
          ∙ sym (bit_high w (suc j) 1 small (omega arith))

  module _ (keep : ℕ) (e : keep ≡ kept (gaps_of s) (s.slots - 1)) where
    pub moved_first : (w : ℕ) → w < 2 ^ 1 → Moved s (fields_say (gaps_of s) from) w (fields_say (gaps_of s) (bit_or ((bit_and from keep * 2) % 2 ^ 64) w))
    unfolding moved
    moved_first w small = subst (λ k. Moved s (fields_say (gaps_of s) from) w (fields_say (gaps_of s) (bit_or ((bit_and from k * 2) % 2 ^ 64) w))) (sym e) (first w small)

    pub moved_none : Moved s (fields_say (gaps_of s) from) 0 (fields_say (gaps_of s) ((bit_and from keep * 2) % 2 ^ 64))
    moved_none = subst (λ m. Moved s (fields_say (gaps_of s) from) 0 (fields_say (gaps_of s) m)) (or_zero_r ((bit_and from keep * 2) % 2 ^ 64)) (moved_first 0 (omega arith))

-- it takes one bit more of a word
module _ (s : Signature) (says : Memory) (memory v w t : ℕ) (have : Moved s says v (fields_say (gaps_of s) memory)) (on : bit w t ≡ true) (same : (i : ℕ) → i ≢ t → bit w i ≡ bit v i) where
  field_set : Moved s says w (fields_say (gaps_of s) (bit_or memory (2 ^ offset (gaps_of s) t)))
  field_set = record {
    newest = λ j l. ⊎_elim
        (λ (e : j ≡ t). subst (λ j. fields_say (gaps_of s) (bit_or memory (2 ^ offset (gaps_of s) t)) j 0 ≡ bit w j) (sym e) (here ∙ sym on))
        (λ (e : j ≡ t → ⊥). other j 0 (omega arith) (λ q. absurd (e q)) ∙ have.newest j l ∙ sym (same j e))
        (cases_eq j t);
    older = λ j d l h. other j (suc d) h (λ _. omega arith) ∙ have.older j d l h;
  }
    where
      other : (j d : ℕ) → d ≤ high (gaps_of s) j → (j ≡ t → 0 < d) → fields_say (gaps_of s) (bit_or memory (2 ^ offset (gaps_of s) t)) j d ≡ fields_say (gaps_of s) memory j d
      other j d h off = or_off memory (2 ^ offset (gaps_of s) t) (offset (gaps_of s) j + d) (bit_pow_other (offset (gaps_of s) j + d) (offset (gaps_of s) t) (beside (gaps_of s) j t d h off))

      here : fields_say (gaps_of s) (bit_or memory (2 ^ offset (gaps_of s) t)) t 0 ≡ true
      here = let p : offset (gaps_of s) t ≡ offset (gaps_of s) t + 0 = omega arith in
          or_on memory (2 ^ offset (gaps_of s) t) (offset (gaps_of s) t + 0) (ap (bit (2 ^ offset (gaps_of s) t)) (sym p) ∙ bit_pow_same (offset (gaps_of s) t))

  -- the bit of a slot that has no field goes nowhere
  field_none : s.slots ≤ suc t → Moved s says w (fields_say (gaps_of s) memory)
  field_none l = record { newest = λ j h. let ne : j ≢ t = omega arith in have.newest j h ∙ sym (same j ne); older = have.older }

  pub moved_set : (start : ℕ) → (t < s.slots - 1 → start ≡ 2 ^ offset (gaps_of s) t) → (s.slots - 1 ≤ t → start ≡ 0) → Moved s says w (fields_say (gaps_of s) (bit_or memory start))
  moved_set start begun idle = ⊎_elim
      (λ (l : t < s.slots - 1). subst (λ x. Moved s says w (fields_say (gaps_of s) (bit_or memory x))) (sym (begun l)) field_set)
      (λ (l : s.slots - 1 ≤ t). subst (λ x. Moved s says w (fields_say (gaps_of s) x)) (sym (ap (bit_or memory) (idle l) ∙ or_zero_r memory)) (field_none (omega arith)))
      (cases_lt t (s.slots - 1))

-- the window of a slot is that of the gap before it
pub opened_before : (gs : List Gap) (n : ℕ) (fields : List Field) → Opened gs n fields → (t : ℕ) → 1 ≤ t → t - 1 < n
    → window_at fields t ≡ block (offset gs (t - 1) + low gs (t - 1)) (high gs (t - 1) - low gs (t - 1) + 1)
opened_before gs n fields opened t h l =
    let e : suc (t - 1) ≡ t = omega (arith, h) in
    subst (λ u. window_at fields u ≡ block (offset gs (t - 1) + low gs (t - 1)) (high gs (t - 1) - low gs (t - 1) + 1)) e (opened (t - 1) l)

-- the test of a window tells whether the memory says yes in it
pub window_tells : (s : Signature) (memory window j : ℕ) → low (gaps_of s) j ≤ high (gaps_of s) j
    → window ≡ block (offset (gaps_of s) j + low (gaps_of s) j) (high (gaps_of s) j - low (gaps_of s) j + 1) → Decides (not (eqb (bit_and memory window) 0)) (Seen s (fields_say (gaps_of s) memory) j)
window_tells s memory window j l e =
    let o = offset (gaps_of s) j in
    let lo = low (gaps_of s) j in
    let hi = high (gaps_of s) j in
    let t = meets memory (o + lo) (hi - lo + 1) in
    subst (λ w. Decides (not (eqb (bit_and memory w) 0)) (Seen s (fields_say (gaps_of s) memory) j)) (sym e) (
      (λ b. let r = t.0 b in
          let q : o + (r.0 - o) ≡ r.0 = omega (arith, r.1) in
          (r.0 - o, omega (arith, r.1), omega (arith, r.2), ap (bit memory) q ∙ r.3)),
      (λ seen. t.1 (o + seen.0, omega (arith, seen.1), omega (arith, seen.2), seen.3)),
    )
