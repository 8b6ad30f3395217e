use Rattle.std.proofs.Common.{◌≡◌, length}
use Rattle.engines.specs.Rows.{Loaded}
use Rattle.engines.proofs.strips.rows.load.Given as goal

abbrev pub invariant-loop-row : goal.invariant-loop-row
invariant-loop-row g l = (length l.bits-items ≡ g.row.W) × Loaded g.row.W l.strip l.row l.bits-items
