use Rattle.engines.proofs.Laid.{Laid}
use Rattle.engines.proofs.layout.Layout.new.Given as goal

abbrev pub invariant-loop-j : goal.invariant-loop-j
invariant-loop-j l = Laid l.gaps l.j l.at l.keep l.fields
