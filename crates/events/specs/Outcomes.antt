-- The answer of a search as three numbers.
use Rattle.std.specs.Prelude.{ℕ, Ok, Err, Result}
use Rattle.text.specs.declared.refusal.Refusal.{Refusal}
use Rattle.text.specs.Refusals.{number_of, place_of}
use Rattle.events.specs.declared.outcome.Outcome.{Outcome}

-- 0 is the number of no refusal
abbrev pub outcome_of : Result ℕ Refusal → Outcome
outcome_of (Ok n) = record { refusal = 0; place = 0; hits = n }
outcome_of (Err e) = record { refusal = number_of e; place = place_of e; hits = 0 }
