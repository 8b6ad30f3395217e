-- The marks of a strip are those of 64 steps.
use Rattle.std.proofs.Common.{◌≡◌, ℕ, zero, suc, ◌+◌, ◌-◌, ◌<◌, ◌≤◌, false, List, get_or, replicate, sym, refl, ap, ◌∙◌, ⊎_elim, arith}
use Rattle.std.proofs.lemmas.Bool.{cases_lt, both_ways}
use Rattle.runs.specs.declared.signature.Signature.{Signature}
use Rattle.runs.specs.Gaps.{low, high}
use Rattle.runs.specs.Signatures.{gaps_of}
use Rattle.runs.specs.Bits.{bit}
use Rattle.engines.specs.Masked.{masks_say}
use Rattle.engines.specs.Memory.{Memory, Seen, Stepped, Moved, Same, Steps}
use Rattle.engines.specs.Memory.Steps.{none, more}
use Rattle.engines.proofs.Bits.{bit_zero}
use Rattle.engines.proofs.Chains.{moved_to}
use Rattle.engines.proofs.Laid.{all_same}
use Rattle.engines.proofs.Signatures.{gap_narrow}
use Rattle.engines.specs.Windows.{back, Reached}
use Rattle.engines.specs.Marks.{Marked, Kept}
use Rattle.engines.specs.Rows.{word_at, Columns}
use Rattle.engines.specs.Strips.{Stepped64}
use Rattle.engines.proofs.Smears.{back_here, back_past}

module _ (w : ℕ) (s : Signature) (masks fits marks after before words : List ℕ) (some : 1 ≤ w) (most : w ≤ 32) (few : s.slots ≤ w)
    (was : Columns w before fits) (marked : Marked s w masks fits marks) (is : Columns w words marks)
    (clean : (c j : ℕ) → c < 64 → w ≤ j → bit (word_at words c) j ≡ false) (kept : Kept s marks after) where
  -- what is remembered before place k of the strip
  abbrev memory : ℕ → Memory
  memory k j d = back (get_or masks j 0) (get_or marks j 0) (64 - k + d)

  -- bit j of the word of place k, in its column
  bit_of : (k j : ℕ) → k < 64 → j < w → bit (get_or marks j 0) (63 - k) ≡ bit (get_or words k 0) j
  bit_of k j lk lj = let e : 63 - (63 - k) ≡ k = omega arith in is j (63 - k) lj (omega arith) ∙ ap (λ i. bit (get_or words i 0) j) e

  fit_of : (k j : ℕ) → k < 64 → j < w → bit (get_or fits j 0) (63 - k) ≡ bit (get_or before k 0) j
  fit_of k j lk lj = let e : 63 - (63 - k) ≡ k = omega arith in was j (63 - k) lj (omega arith) ∙ ap (λ i. bit (get_or before i 0) j) e

  clean_of : (k j : ℕ) → k < 64 → w ≤ j → bit (get_or words k 0) j ≡ false
  clean_of k j lk lj = let e : k ≡ 63 - (63 - k) = omega arith in ap (λ i. bit (get_or words i 0) j) e ∙ clean (63 - k) j (omega arith) lj

  reached_seen : (k j : ℕ) → k < 64 → Reached (low (gaps_of s) j) (high (gaps_of s) j) (get_or masks j 0) (get_or marks j 0) (63 - k) → Seen s (memory k) j
  reached_seen k j lk (d, lo, hi, b) =
      let e : 64 - k + d ≡ 63 - k + 1 + d = omega arith in
      (d, lo, hi, ap (back (get_or masks j 0) (get_or marks j 0)) e ∙ b)

  seen_reached : (k j : ℕ) → k < 64 → Seen s (memory k) j → Reached (low (gaps_of s) j) (high (gaps_of s) j) (get_or masks j 0) (get_or marks j 0) (63 - k)
  seen_reached k j lk (d, lo, hi, b) =
      let e : 63 - k + 1 + d ≡ 64 - k + d = omega arith in
      (d, lo, hi, ap (back (get_or masks j 0) (get_or marks j 0)) e ∙ b)

  step : (k : ℕ) → k < 64 → Stepped s (memory k) (get_or before k 0) (get_or words k 0)
  step k lk = record {
    first = sym (bit_of k 0 lk (omega arith)) ∙ ap (λ v. bit v (63 - k)) marked.first ∙ fit_of k 0 lk (omega arith);
    later = λ j l.
        let lj : suc j < w = omega arith in
        let tells = marked.later j l (63 - k) (omega arith) in (
          (λ b. let r = tells.0 (bit_of k (suc j) lk lj ∙ b) in (sym (fit_of k (suc j) lk lj) ∙ r.0, reached_seen k j lk r.1)),
          (λ h. sym (bit_of k (suc j) lk lj) ∙ tells.1 (fit_of k (suc j) lk lj ∙ h.0, seen_reached k j lk h.1)),
        );
    none = λ j l. ⊎_elim
        (λ (lj : suc j < w). sym (bit_of k (suc j) lk lj) ∙ ap (λ v. bit v (63 - k)) (marked.none j l lj) ∙ bit_zero (63 - k))
        (λ (lj : w ≤ suc j). clean_of k (suc j) lk lj)
        (cases_lt (suc j) w);
  }

  move : (k : ℕ) → k < 64 → Moved s (memory k) (get_or words k 0) (memory (suc k))
  move k lk = record {
    newest = λ j l.
        let e : 64 - suc k + 0 ≡ 63 - k = omega arith in
        ap (back (get_or masks j 0) (get_or marks j 0)) e ∙ back_here (get_or masks j 0) (get_or marks j 0) (63 - k) (omega arith) ∙ bit_of k j lk (omega arith);
    older = λ j d l h. let e : 64 - suc k + suc d ≡ 64 - k + d = omega arith in ap (back (get_or masks j 0) (get_or marks j 0)) e;
  }

  chain : (k : ℕ) → k ≤ 64 → Steps s before words (masks_say masks) k (memory k)
  chain zero l = none (λ j d lj ld.
      let e : 64 - 0 + d ≡ 64 + d = omega arith in
      ap (back (get_or masks j 0) (get_or marks j 0)) e ∙ back_past (get_or masks j 0) (get_or marks j 0) d)
  chain (suc k) l = more (chain k (omega arith)) (step k (omega arith)) (move k (omega arith))

  ends : Same s (memory 64) (masks_say after)
  ends j d lj ld =
      let e : d ≡ 64 - 64 + d = omega arith in
      let near : d < 64 = omega (arith, gap_narrow s j lj) in
      ap (λ v. bit v d) (kept j lj) ∙ sym (back_here (get_or masks j 0) (get_or marks j 0) d near) ∙ ap (back (get_or masks j 0) (get_or marks j 0)) e

  pub stepped_strip : Stepped64 s before words masks after
  stepped_strip = more (chain 63 (omega arith)) (step 63 (omega arith)) (moved_to s (memory 63) (memory 64) (masks_say after) _ ends (move 63 (omega arith)))

-- where nothing fits, nothing is marked
abbrev pub blanks : ℕ → List ℕ
blanks n = replicate n 0

no_bit : (n j i : ℕ) → bit (get_or (blanks n) j 0) i ≡ false
no_bit n j i = ap (λ v. bit v i) (all_same n j 0) ∙ bit_zero i

pub stepped_blank : (w : ℕ) (s : Signature) (masks before : List ℕ) → 1 ≤ w → w ≤ 32 → s.slots ≤ w
    → ((j c : ℕ) → j < w → c < 64 → bit (word_at before c) j ≡ false) → Stepped64 s before (blanks 64) masks (blanks 31)
stepped_blank w s masks before some most few blank =
    stepped_strip w s masks (blanks 32) (blanks 32) (blanks 31) before (blanks 64) some most few
    (λ j c lj lc. no_bit 32 j c ∙ sym (blank j c lj lc))
    (record {
      first = refl;
      later = λ j l i li. (
        (λ b. absurd (both_ways _ (no_bit 32 (suc j) i) b)),
        (λ h. absurd (both_ways _ (no_bit 32 (suc j) i) h.0)),
      );
      none = λ j l h. all_same 32 (suc j) 0;
    })
    (λ j c lj lc. no_bit 32 j c ∙ sym (no_bit 64 (63 - c) j))
    (λ c j lc lj. no_bit 64 (63 - c) j)
    (λ j l. all_same 31 j 0 ∙ sym (all_same 32 j 0))
