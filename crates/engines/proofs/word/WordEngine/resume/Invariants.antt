use Rattle.std.proofs.Common.{◌≡◌, take}
use Rattle.runs.specs.Signatures.{gaps_of}
use Rattle.engines.specs.Fields.{fields_say}
use Rattle.engines.specs.Memory.{Recalls}
use Rattle.engines.proofs.word.WordEngine.resume.Given as goal

-- the memory is that of the words so far
abbrev pub invariant-loop-word : goal.invariant-loop-word
invariant-loop-word l =
    (l.self.layout ≡ l.initial.self.layout)
    × Recalls l.initial.self.layout.shape.signature (take l.word-index l.word-items) (fields_say (gaps_of l.self.layout.shape.signature) l.self.memory)
