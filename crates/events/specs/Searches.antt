-- What a search of event codes for a signature's text answers, and what it leaves.
use Rattle.std.specs.Prelude.{◌≡◌, ℕ, ◌≤◌, List, length, Ok, Err, Result, slice_index_or}
use Rattle.text.specs.declared.refusal.Refusal.{Refusal}
use Rattle.text.specs.Refusals.{◌then◌}
use Rattle.runs.specs.declared.signature.Signature.{Signature}
use Rattle.runs.specs.Runs.{Pattern}
use Rattle.runs.specs.Signatures.{gaps_of}
use Rattle.runs.specs.Words.{words, hits}
use Rattle.signature.specs.Sets.{nothing}
use Rattle.signature.specs.Outcomes.{Plan, signature_at}
use Rattle.gauges.specs.Codes.{event_at}
use Rattle.search.specs.Openings.{opening_by}

-- the pattern that a signature's text was read as
abbrev pub pattern_in : {R : Type 0} → Plan R → Pattern R
pattern_in p = record { sets = λ j. slice_index_or p.sets j nothing; gaps = p.gaps }

-- the text of event slots is read, and then the opening is granted, for buffers of these lengths, to an engine with this limit
abbrev pub searchable : ℕ → List ℕ → ℕ → ℕ → Result (Plan ℕ) Refusal
searchable limit text readings sheet =
    signature_at event_at text then (λ p.
    opening_by limit readings sheet (length p.sets) p.gaps then (λ _. Ok p))

-- the number of hits
abbrev pub counted : List ℕ → Result (Plan ℕ) Refusal → Result ℕ Refusal
counted xs o = o then (λ p. Ok (length (hits (pattern_in p) xs)))

-- the mark words, or the sheet as it was
abbrev pub sheet_left : List ℕ → List ℕ → Result (Plan ℕ) Refusal → List ℕ
sheet_left xs sheet (Ok p) = words (pattern_in p) xs
sheet_left xs sheet (Err e) = sheet

-- the signature of the text, which has a slot
abbrev pub SignatureLeft : Result (Plan ℕ) Refusal → Signature → Type 0
SignatureLeft (Ok p) s = (1 ≤ s.slots) × (gaps_of s ≡ p.gaps)
SignatureLeft (Err e) s = Unit {0}
