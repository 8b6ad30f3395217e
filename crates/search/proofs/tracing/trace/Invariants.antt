use Rattle.std.proofs.Common.{◌≡◌, ℕ, ◌<◌, ◌≤◌, get_or}
use Rattle.runs.specs.Runs.{place}
use Rattle.search.specs.Traces.{trace_of}
use Rattle.search.proofs.tracing.trace.Given as goal

-- the places of the slots from this one on are written, and the entries past the slots are as they were
abbrev pub invariant-loop-slot : goal.invariant-loop-slot
invariant-loop-slot l =
    ((k : ℕ) → l.slot ≤ k → k < l.slots → get_or l.places k 0 ≡ place (trace_of l.signature l.sheet l.end) k)
    × ((k : ℕ) → l.slots ≤ k → get_or l.places k 0 ≡ get_or l.initial.places k 0)
