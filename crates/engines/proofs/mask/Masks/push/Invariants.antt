use Rattle.engines.proofs.Masked.{Shifted}
use Rattle.engines.proofs.mask.Masks.push.Given as goal

abbrev pub invariant-loop-j : goal.invariant-loop-j
invariant-loop-j l = Shifted l.initial.mask-items l.word l.j l.mask-items
