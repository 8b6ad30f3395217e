-- One worked shift, for the signature 10-x(0,2)-[20 21] and buffers of 8 entries.
use Rattle.std.specs.Prelude.{◌≡◌, ℕ, ◌≤◌, List, [], ◌∷◌, ◌++◌, Some, Ok, Err}
use Rattle.text.specs.declared.refusal.Refusal.TheVariants.{NoPlace, Settled}
use Rattle.runs.specs.Sheets.{pair}
use Rattle.runs.specs.Signatures.{gaps_of}
use Rattle.records.specs.declared.call.Call.{Call}
use Rattle.records.specs.declared.call.Call.TheVariants.{Append, Amend, Settle, NextHit, Trace, FinalHits, Close}
use Rattle.records.specs.declared.call.Reply.TheVariants.{Placed, Reworked, Line, Hit, Traced, Named, Closed, NotTaken}
use Rattle.records.specs.States.{Meaning, Terms, State}
use Rattle.records.specs.Books.{Answer}
use Rattle.shifts.specs.Stands.{answered}
use Rattle.shifts.specs.Made.{Made}
use Rattle.shifts.specs.Promise.{Promise}
use Rattle.shifts.specs.Replayed.{closing}

-- a call with the whole buffers, and with a list
abbrev plain : Call ℕ → Made ℕ
plain call = record { call = call; list = []; lent = 8 }

abbrev listed : Call ℕ → List ℕ → Made ℕ
listed call list = record { call = call; list = list; lent = 8 }

-- the answer of an append that puts a reading at a place, with its mark word
abbrev put : ℕ → ℕ → Answer
put place word = answered (Ok (Placed (record { place = place; word = word }))) []

-- Four readings, a line, and the final hits. A late barcode at place 2 makes a nearer beginning for the hit at 3; one below the line and one past
-- the end are refused. Then the line goes up, the final hits are named again, and the closed record is asked for the trace.
abbrev pub worked_calls : List (Made ℕ)
worked_calls =
    plain (Append 10) ∷ plain (Append 20) ∷ plain (Append 5) ∷ plain (Append 21) ∷ plain (Settle 2) ∷ listed FinalHits (9 ∷ 9 ∷ 9 ∷ []) ∷ plain (Amend 2 10)
    ∷ plain (Amend 1 10) ∷ plain (Amend 9 10) ∷ plain (Settle 4) ∷ listed FinalHits (9 ∷ 9 ∷ 9 ∷ []) ∷ plain (NextHit 2) ∷ plain Close ∷ listed (Trace 3) (9 ∷ 9 ∷ 9 ∷ []) ∷ []

abbrev pub worked_answers : List Answer
worked_answers =
    put 0 1 ∷ put 1 2 ∷ put 2 0 ∷ put 3 2 ∷ answered (Ok (Line 2)) []
    ∷ answered (Ok (Named 1)) (1 ∷ 9 ∷ 9 ∷ []) ∷ answered (Ok (Reworked 2)) [] ∷ answered (Err (Settled 1)) [] ∷ answered (Err (NoPlace 9)) [] ∷ answered (Ok (Line 4)) []
    ∷ answered (Ok (Named 2)) (1 ∷ 3 ∷ 9 ∷ []) ∷ answered (Ok (Hit (Some 3))) [] ∷ answered (Ok Closed) [] ∷ answered (Ok Traced) (2 ∷ 3 ∷ 9 ∷ []) ∷ []

-- with the closing that a replayed shift ends with, which a closed record does not take
abbrev pub worked_shift : List (Made ℕ)
worked_shift = worked_calls ++ closing ∷ []

abbrev pub worked_outcome : List Answer
worked_outcome = worked_answers ++ answered (Ok NotTaken) [] ∷ []

-- the promise alone gives these answers, whatever gauge has the sets of 10 and of 20 and 21, and whatever engine
abbrev pub Worked : Type 0 → Type 0 → Type 0
Worked G E = (M : Meaning G E ℕ) (T : Terms G) (said : List Answer) (states : ℕ → State G E ℕ) → T.room ≡ 8 → gaps_of T.signature ≡ pair.gaps
    → ((j : ℕ) → j ≤ 1 → (x : ℕ) → M.sets T.gauge j x ≡ pair.sets j x) → Promise M T worked_shift said states → said ≡ worked_outcome
