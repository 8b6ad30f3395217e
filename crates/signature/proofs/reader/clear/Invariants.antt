use Rattle.std.proofs.Common.{◌≡◌, ℕ, ◌<◌, false}
use Rattle.signature.proofs.reader.clear.Given as goal

abbrev pub invariant-loop-slot : goal.invariant-loop-slot
invariant-loop-slot g l = (j : ℕ) → j < l.slot → j < 32 → (x : g.row.G-Reading.Denot) → g.G.Gauge.sets l.gauge j x ≡ false
