use Rattle.std.proofs.Common.{◌≡◌, ℕ, false, cond, ltb}
use Rattle.runs.specs.Bits.{bit}
use Rattle.gauges.specs.Currents.{banded}
use Rattle.gauges.proofs.current.CurrentGauge.try_reading.Given as goal

abbrev pub invariant-loop-slot : goal.invariant-loop-slot
invariant-loop-slot l = (j : ℕ) → bit l.word j ≡ cond (ltb j l.slot) (banded l.self.bands j l.reading) false
