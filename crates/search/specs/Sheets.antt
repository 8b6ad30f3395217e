-- Sheets: a mark word for each place.
use Rattle.std.specs.Prelude.{◌≡◌, ℕ, ◌<◌, Bool, List, length, Ok, Err, filter, Result, slice_index}
use Rattle.std.specs.List.{slice_get}
use Rattle.text.specs.declared.refusal.Refusal.{Refusal}
use Rattle.text.specs.Refusals.{◌then◌}
use Rattle.runs.specs.Bits.{bit}
use Rattle.runs.specs.Runs.{Pattern, among}
use Rattle.runs.specs.Words.{words, hits}

-- the word of each place has a bit for each slot that its reading fits
abbrev pub Fitted : {R : Type 0} → (ℕ → R → Bool) → List R → List ℕ → Type 0
Fitted sets xs sheet = (k : ℕ) → k < length xs → (j : ℕ) → j < 32 → bit (slice_index sheet k) j ≡ among (sets j) (slice_get xs k)

-- how many words of a sheet bear the mark of a slot
abbrev pub bearing : ℕ → List ℕ → ℕ
bearing slot sheet = length (filter (λ w. bit w slot) sheet)

-- what a search answers, and what it leaves of a sheet, where the opening is granted or refused
abbrev pub found : {R : Type 0} → Pattern R → List R → Result (Unit {0}) Refusal → Result ℕ Refusal
found P xs o = o then (λ _. Ok (length (hits P xs)))

abbrev pub sheet_after : {R : Type 0} → Pattern R → List R → List ℕ → Result (Unit {0}) Refusal → List ℕ
sheet_after P xs sheet (Ok _) = words P xs
sheet_after P xs sheet (Err _) = sheet
