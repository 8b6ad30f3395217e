-- From a gauge and a signature as a text leaves them to the pattern that the text was read as.
use Rattle.std.proofs.Common.{◌≡◌, ℕ, ◌≤◌, Bool, List, length, get_or, Ok, Err, Result, refl, ap, ◌∙◌, arith}
use Rattle.text.specs.declared.refusal.Refusal.{Refusal}
use Rattle.text.specs.Refusals.{◌then◌}
use Rattle.runs.specs.declared.gap.Gap.{Gap}
use Rattle.runs.specs.declared.signature.Signature.{Signature}
use Rattle.runs.specs.Signatures.{gaps_of, pattern_of}
use Rattle.runs.specs.Words.{words, hits}
use Rattle.runs.proofs.Alike.{words_alike, hits_alike}
use Rattle.runs.proofs.Patterns.{length_gaps_of}
use Rattle.signature.specs.Sets.{nothing}
use Rattle.signature.specs.Outcomes.{Plan, Left, answer, signature_at}
use Rattle.gauges.specs.Codes.{event_at}
use Rattle.search.specs.Openings.{opening, opening_by}
use Rattle.search.specs.Sheets.{found, sheet_after}
use Rattle.events.specs.Searches.{pattern_in, searchable, counted, sheet_left, SignatureLeft}

-- an answer that is given comes of a plan
pub plan_of : {R : Type 0} (o : Result (Plan R) Refusal) (x : Unit {0}) → Ok x ≡ answer o → (p : Plan R) × (o ≡ Ok p)
plan_of (Ok p) x is = (p, refl)
plan_of (Err e) x is = absurd (let z : ◌≡◌ {A = ℕ} 0 1 = cc in omega arith)

-- a plan is searched where its opening is granted
pub planned_search : (limit : ℕ) (text : List ℕ) (n sheet : ℕ) (p : Plan ℕ) → signature_at event_at text ≡ Ok p
    → searchable limit text n sheet ≡ (opening_by limit n sheet (length p.sets) p.gaps then (λ _. Ok p))
planned_search limit text n sheet p is = ap (λ o. o then (λ q. opening_by limit n sheet (length q.sets) q.gaps then (λ _. Ok q))) is

module _ (p : Plan ℕ) (s : Signature) (xs : List ℕ) where
  abbrev planned : ℕ → ℕ → Bool
  planned j = get_or p.sets j nothing

  -- the gauge's sets are those of the plan, as far as there are slots
  module _ (sets : ℕ → ℕ → Bool) (left : Left (Ok p) sets s) where
    same_sets : (j : ℕ) → j ≤ length (gaps_of s) → (x : ℕ) → sets j x ≡ planned j x
    same_sets j l x = left.held j (omega (arith, length_gaps_of s, s.few)) x

    words_planned : words (pattern_of sets s) xs ≡ words (pattern_in p) xs
    words_planned = words_alike sets planned (gaps_of s) same_sets xs ∙ ap (λ (gs : List Gap). words (record { sets = planned; gaps = gs }) xs) left.gaps

    hits_planned : hits (pattern_of sets s) xs ≡ hits (pattern_in p) xs
    hits_planned = hits_alike sets planned (gaps_of s) same_sets xs ∙ ap (λ (gs : List Gap). hits (record { sets = planned; gaps = gs }) xs) left.gaps

    -- what a search answers and leaves, in the plan's words
    pub search_value : (q : Result (Unit {0}) Refusal) → found (pattern_of sets s) xs q ≡ counted xs (q then (λ _. Ok p))
    search_value (Ok _) = ap (λ (hs : List ℕ). Ok (length hs)) hits_planned
    search_value (Err e) = refl

    pub search_sheet : (q : Result (Unit {0}) Refusal) (sheet : List ℕ) → sheet_after (pattern_of sets s) xs sheet q ≡ sheet_left xs sheet (q then (λ _. Ok p))
    search_sheet (Ok _) sheet = words_planned
    search_sheet (Err e) sheet = refl

    pub search_signature : (q : Result (Unit {0}) Refusal) → (q ≡ Ok tt → 1 ≤ s.slots) → SignatureLeft (q then (λ _. Ok p)) s
    search_signature (Ok _) some = (some refl, left.gaps)
    search_signature (Err e) some = tt

    -- the opening that the search asks for is that of the plan
    pub same_opening : (limit n sheet : ℕ) → opening limit n sheet s ≡ opening_by limit n sheet (length p.sets) p.gaps
    same_opening limit n sheet = ap (λ (m : ℕ). opening_by limit n sheet m (gaps_of s)) left.slots ∙ ap (λ (gs : List Gap). opening_by limit n sheet (length p.sets) gs) left.gaps
