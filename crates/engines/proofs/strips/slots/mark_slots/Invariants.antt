use Rattle.std.proofs.Common.{length}
use Rattle.engines.proofs.Marks.{Ongoing}
use Rattle.engines.proofs.strips.slots.mark_slots.Given as goal

abbrev pub invariant-loop-j : goal.invariant-loop-j
invariant-loop-j l = Ongoing (length l.initial.columns) l.signature l.initial.masks l.initial.columns l.j l.columns l.masks l.ended
