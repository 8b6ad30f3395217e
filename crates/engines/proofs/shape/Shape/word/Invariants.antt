use Rattle.engines.specs.Memory.{Memory, Seeing}
use Rattle.engines.proofs.Looking.{Looking, Told}
use Rattle.engines.proofs.shape.Shape.word.Given as goal

-- the slots of `left` are still to be looked at
abbrev pub invariant-loop-left : goal.invariant-loop-left
invariant-loop-left g l =
    let s = l.self.signature in
    Looking s l.fits l.left l.word × ((says : Memory) → Seeing s says (goal.F-post g l.seen) → Told s says l.fits l.left l.word)

abbrev pub decreases-loop-left : goal.decreases-loop-left
decreases-loop-left g l = l.left
