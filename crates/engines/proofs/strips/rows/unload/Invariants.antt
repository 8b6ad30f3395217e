use Rattle.engines.proofs.Packed.{Rows}
use Rattle.engines.proofs.strips.rows.unload.Given as goal

abbrev pub invariant-loop-row : goal.invariant-loop-row
invariant-loop-row g l = Rows g.row.W l.rows l.row l.strip
