use Rattle.std.proofs.Common.{◌-◌}
use Rattle.signature.proofs.Reading.{Sofar}
use Rattle.signature.proofs.reader.read_slots.Given as goal

abbrev pub invariant-loop-at : goal.invariant-loop-at
invariant-loop-at g l = Sofar g.G.WrittenGauge.reads l.text l.at (g.G.Gauge.sets l.gauge) l.signature

-- the slots that may still follow
abbrev pub decreases-loop-at : goal.decreases-loop-at
decreases-loop-at g l = 32 - l.signature.slots
