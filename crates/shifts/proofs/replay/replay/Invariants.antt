use Rattle.records.specs.States.{meaning}
use Rattle.shifts.specs.Stands.{standing}
use Rattle.shifts.proofs.Going.{Going}
use Rattle.shifts.proofs.replay.replay.Given as goal

abbrev pub invariant-loop-i : goal.invariant-loop-i
invariant-loop-i g l =
    Going (meaning g.G.Gauge g.E.Engine) l.initial.requests (standing l.initial.kept l.initial.readings l.initial.sheet)
    l.requests l.i (standing l.kept l.readings l.sheet)
