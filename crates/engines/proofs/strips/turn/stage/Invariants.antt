use Rattle.engines.proofs.Stages.{Partly}
use Rattle.engines.proofs.strips.turn.stage.Given as goal

-- the pairs of rows so far are swapped
abbrev pub invariant-loop-pair : goal.invariant-loop-pair
invariant-loop-pair g l = Partly g.row.W l.by l.pair l.initial.rows l.rows
