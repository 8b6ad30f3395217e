use Rattle.engines.proofs.Packed.{Spreading}
use Rattle.engines.proofs.strips.rows.spread.Given as goal

abbrev pub invariant-loop-part : goal.invariant-loop-part
invariant-loop-part g l = Spreading g.row.W l.row l.bits l.part l.initial.strip l.strip
