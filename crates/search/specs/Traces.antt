-- The trace of a hit by a sheet's words, and when a trace is refused.
use Rattle.std.specs.Prelude.{ℕ, ◌-◌, Bool, cond, ◌&&◌, List, ◌++◌, length, drop, Some, None, Ok, Err, filter, Option, Result, nat_le, nat_lt, slice_index}
use Rattle.std.specs.List.{range_with_len}
use Rattle.text.specs.declared.refusal.Refusal.{Refusal}
use Rattle.text.specs.declared.refusal.Refusal.TheVariants.{NoPlace, NoHit, ShortList}
use Rattle.runs.specs.declared.gap.Gap.{Gap}
use Rattle.runs.specs.declared.signature.Signature.{Signature}
use Rattle.runs.specs.Bits.{bit}
use Rattle.runs.specs.Signatures.{gaps_of}
use Rattle.runs.specs.Words.{some, near, before, trace_to}

-- the marks that a sheet says its places bear
abbrev pub sheet_marks : List ℕ → ℕ → ℕ → Bool
sheet_marks sheet j p = bit (slice_index sheet p) j

-- a place of the sheet that bears the last slot's mark
abbrev pub sheet_hit : Signature → List ℕ → ℕ → Bool
sheet_hit s sheet p = nat_lt p (length sheet) && (nat_lt 0 s.slots && sheet_marks sheet (s.slots - 1) p)

-- the hits of a sheet, lowest first
abbrev pub hits_of : Signature → List ℕ → List ℕ
hits_of s sheet = filter (sheet_hit s sheet) (range_with_len 0 (length sheet))

-- the latest place before p, within gap j, that bears mark j, where `marks j q` says whether place q does
abbrev pub latest_before : List Gap → (ℕ → ℕ → Bool) → ℕ → ℕ → Option ℕ
latest_before gs marks j p = cond (some (λ q. near gs j q p && marks j q) p) (Some (before gs marks j p)) None

-- a place for each slot, back from p
abbrev pub trace_of : Signature → List ℕ → ℕ → List ℕ
trace_of s sheet p = trace_to (gaps_of s) (sheet_marks sheet) (s.slots - 1) p

-- the order of the refusals: the place, the hit, the room in the list
abbrev pub tracing_by : (places slots : ℕ) (hit : Bool) (p room : ℕ) → Result (Unit {0}) Refusal
tracing_by places slots hit p room =
    cond (nat_lt p places)
    (cond hit
    (cond (nat_le slots room) (Ok tt) (Err (ShortList p)))
    (Err (NoHit p)))
    (Err (NoPlace p))

abbrev pub tracing : Signature → List ℕ → ℕ → ℕ → Result (Unit {0}) Refusal
tracing s sheet p room = tracing_by (length sheet) s.slots (sheet_hit s sheet p) p room

-- only the first entries of the list change, one for each slot, and none where the trace is refused
abbrev pub places_from : Signature → List ℕ → ℕ → List ℕ → Result (Unit {0}) Refusal → List ℕ
places_from s sheet p places (Ok _) = trace_of s sheet p ++ drop s.slots places
places_from s sheet p places (Err _) = places

abbrev pub places_after : Signature → List ℕ → ℕ → List ℕ → List ℕ
places_after s sheet p places = places_from s sheet p places (tracing s sheet p (length places))
