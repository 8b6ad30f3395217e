-- A sheet of mark words tells the hits and the traces.
use Rattle.std.proofs.Common.{◌≡◌, ℕ, ◌-◌, ◌<◌, ◌≤◌, Bool, List, length, get_or, filter, sym, ap, ◌∙◌, arith}
use Rattle.std.specs.List.{range_with_len}
use Rattle.std.proofs.lemmas.Bool.Decides.{nat_tests}
use Rattle.runs.specs.declared.signature.Signature.{Signature}
use Rattle.runs.specs.Bits.{bit}
use Rattle.runs.specs.Runs.{Pattern, last_slot}
use Rattle.runs.specs.Signatures.{gaps_of, pattern_of}
use Rattle.runs.specs.Words.{mark, word, words, hits, trace, trace_to}
use Rattle.runs.proofs.Below.{kept_same}
use Rattle.runs.proofs.Marked.{mark_decides}
use Rattle.runs.proofs.Patterns.{slots_of}
use Rattle.runs.proofs.Places.{trace_to_same}
use Rattle.runs.proofs.Worded.{bit_mark, length_words, get_or_words}
use Rattle.search.specs.Laws.{SheetTells}
use Rattle.search.specs.Traces.{sheet_marks, sheet_hit, hits_of, trace_of}

module _ {R : Type 0} (sets : ℕ → R → Bool) (s : Signature) (some : 1 ≤ s.slots) (xs : List R) where
  abbrev P : Pattern R
  P = pattern_of sets s

  last_is : s.slots - 1 ≡ last_slot P
  last_is = omega (arith, slots_of sets s some)

  pub hit_mark : (sheet : List ℕ) (p : ℕ) → p < length sheet → get_or sheet p 0 ≡ word P xs p → sheet_hit s sheet p ≡ mark P xs (last_slot P) p
  hit_mark sheet p l is =
      let b : bit (get_or sheet p 0) (s.slots - 1) ≡ mark P xs (last_slot P) p = ap (λ (w : ℕ). bit w (s.slots - 1)) is ∙ ap (bit (word P xs p)) last_is ∙ bit_mark P xs (last_slot P) p (omega arith) in
      grind (arith, nat_tests)

  pub traced : (sheet : List ℕ) (p : ℕ) → ((k : ℕ) → k < p → get_or sheet k 0 ≡ word P xs k) → trace_of s sheet p ≡ trace P xs p
  unfolding trace
  traced sheet p known =
      ap (λ (j : ℕ). trace_to (gaps_of s) (sheet_marks sheet) j p) last_is
      ∙ trace_to_same (gaps_of s) (sheet_marks sheet) (mark P xs) (last_slot P) p (λ i q a b. ap (λ (w : ℕ). bit w i) (known q b) ∙ bit_mark P xs i q (omega arith))

  pub all_hits : hits_of s (words P xs) ≡ hits P xs
  all_hits =
      let long = length_words P xs in
      ap (λ (n : ℕ). filter (sheet_hit s (words P xs)) (range_with_len 0 n)) long
      ∙ kept_same (sheet_hit s (words P xs)) (mark P xs (last_slot P)) 0 (length xs) (λ k _ l. hit_mark (words P xs) k (omega arith) (get_or_words P xs k))

  pub told : SheetTells R sets s xs
  told = record {
    hit = λ sheet p l is.
        let same = hit_mark sheet p l is in
        let d = mark_decides P xs (last_slot P) p in
        (λ t. d.0 (sym same ∙ t), λ h. same ∙ d.1 h);
    traced = traced;
    all = all_hits;
  }
