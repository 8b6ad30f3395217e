use Rattle.engines.proofs.Packed.{Pieces}
use Rattle.engines.proofs.strips.rows.gather.Given as goal

abbrev pub invariant-loop-part : goal.invariant-loop-part
invariant-loop-part g l = Pieces g.row.W l.strip l.row l.part l.bits
