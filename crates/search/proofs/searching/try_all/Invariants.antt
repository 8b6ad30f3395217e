use Rattle.std.proofs.Common.{◌≡◌, ℕ, ◌<◌, get_or}
use Rattle.std.specs.List.{slice_get}
use Rattle.runs.specs.Bits.{bit}
use Rattle.runs.specs.Runs.{among}
use Rattle.search.proofs.searching.try_all.Given as goal

abbrev pub invariant-loop-place : goal.invariant-loop-place
invariant-loop-place g l = (k : ℕ) → k < l.place → (j : ℕ) → j < 32 → bit (get_or l.sheet k 0) j ≡ among (g.G.Gauge.sets l.gauge j) (slice_get l.readings k)
