use Rattle.runs.specs.Signatures.{gaps_of}
use Rattle.engines.specs.Fields.{fields_say}
use Rattle.engines.specs.Memory.{Moved}
use Rattle.engines.proofs.Looking.{Looking, Told}
use Rattle.engines.proofs.word.WordEngine.step.Given as goal

-- the slots of `left` are still to be looked at, and the memory has taken the word so far
abbrev pub invariant-loop-left : goal.invariant-loop-left
invariant-loop-left l =
    let s = l.self.layout.shape.signature in
    let says = fields_say (gaps_of s) l.self.memory in
    Looking s l.fits l.left l.word × Told s says l.fits l.left l.word × Moved s says l.word (fields_say (gaps_of s) l.memory)

abbrev pub decreases-loop-left : goal.decreases-loop-left
decreases-loop-left l = l.left
