-- What the sheet of a search prints.
use Rattle.std.proofs.Common.{◌≡◌, ℕ, ◌≤◌, Bool, List, [], ◌∷◌, ◌++◌, length, get_or, Ok, Err, Result, refl, ap, ◌∙◌, subst, arith}
use Rattle.text.specs.declared.refusal.Refusal.{Refusal}
use Rattle.runs.specs.declared.gap.Gap.{Gap}
use Rattle.runs.specs.declared.signature.Signature.{Signature}
use Rattle.runs.specs.Runs.{Pattern}
use Rattle.runs.specs.Signatures.{gaps_of, pattern_of}
use Rattle.runs.specs.Words.{words, hits, trace}
use Rattle.runs.proofs.Worded.{length_words, get_or_words}
use Rattle.signature.specs.Sets.{nothing}
use Rattle.signature.specs.Outcomes.{Plan}
use Rattle.search.specs.Traces.{hits_of, trace_of}
use Rattle.search.proofs.Told.{traced, all_hits}
use Rattle.events.specs.Searches.{pattern_in, counted, sheet_left, SignatureLeft}
use Rattle.job.specs.Jobs.{found}
use Rattle.job.specs.Printed.{text_of_refusal, hit_lines, last_line}

lines_same : (t u : ℕ → List ℕ) → ((q : ℕ) → t q ≡ u q) → (qs : List ℕ) → hit_lines t qs ≡ hit_lines u qs
lines_same t u same [] = refl
lines_same t u same (q ∷ qs) = rw (same q, lines_same t u same qs) refl

-- the sheet of the pattern's words
module _ (p : Plan ℕ) (s : Signature) (xs : List ℕ) (some : 1 ≤ s.slots) (gaps : gaps_of s ≡ p.gaps) where
  abbrev planned : ℕ → ℕ → Bool
  planned j = get_or p.sets j nothing

  into : (A : Pattern ℕ → Type 0) → A (pattern_of planned s) → A (pattern_in p)
  into A a = subst (λ (gs : List Gap). A (record { sets = planned; gaps = gs })) gaps a

  hits_told : hits_of s (words (pattern_in p) xs) ≡ hits (pattern_in p) xs
  hits_told = into (λ P. hits_of s (words P xs) ≡ hits P xs) (all_hits planned s some xs)

  traces_told : (q : ℕ) → trace_of s (words (pattern_in p) xs) q ≡ trace (pattern_in p) xs q
  traces_told q = into (λ P. trace_of s (words P xs) q ≡ trace P xs q) (traced planned s some xs _ q (λ k l. get_or_words (pattern_of planned s) xs k))

  lines_told : hit_lines (trace_of s (words (pattern_in p) xs)) (hits_of s (words (pattern_in p) xs)) ≡ hit_lines (trace (pattern_in p) xs) (hits (pattern_in p) xs)
  lines_told = lines_same _ _ traces_told (hits_of s (words (pattern_in p) xs)) ∙ ap (hit_lines (trace (pattern_in p) xs)) hits_told

-- what is printed of a search, and of a refusal
pub printed_hits : (xs before : List ℕ) (o : Result (Plan ℕ) Refusal) (count : ℕ) (s : Signature) (sheet : List ℕ) → Ok count ≡ counted xs o → sheet ≡ sheet_left xs before o → SignatureLeft o s
    → hit_lines (trace_of s sheet) (hits_of s sheet) ++ last_line count (length sheet) ≡ found xs o
printed_hits xs before (Ok p) count s sheet is words_are (some, gaps) =
    let P = pattern_in p in
    let n : count ≡ length (hits P xs) = cc in
    ap (λ (ws : List ℕ). hit_lines (trace_of s ws) (hits_of s ws) ++ last_line count (length ws)) words_are
    ∙ ap (λ (ls : List ℕ). ls ++ last_line count (length (words P xs))) (lines_told p s xs some gaps)
    ∙ ap (λ (m : ℕ). hit_lines (trace P xs) (hits P xs) ++ last_line m (length (words P xs))) n
    ∙ ap (λ (m : ℕ). hit_lines (trace P xs) (hits P xs) ++ last_line (length (hits P xs)) m) (length_words P xs)
printed_hits xs before (Err e) count s sheet is words_are h = absurd (let z : ◌≡◌ {A = ℕ} 0 1 = cc in omega arith)

pub printed_refusal : (xs : List ℕ) (o : Result (Plan ℕ) Refusal) (e : Refusal) → Err e ≡ counted xs o → text_of_refusal e ≡ found xs o
printed_refusal xs (Ok p) e is = absurd (let z : ◌≡◌ {A = ℕ} 0 1 = cc in omega arith)
printed_refusal xs (Err x) e is = let same : e ≡ x = cc in ap text_of_refusal same
