use Rattle.std.proofs.Common.{◌%◌, ◌^◌}
use Rattle.runs.specs.Signatures.{gaps_of}
use Rattle.engines.specs.Fields.{fields_say}
use Rattle.engines.specs.Memory.{Moved}
use Rattle.engines.proofs.word.Word.push.Given as goal

-- the bits of the word below j are taken
abbrev pub invariant-loop-j : goal.invariant-loop-j
invariant-loop-j l =
    let s = l.fn.self.layout.shape.signature in
    Moved s (fields_say (gaps_of s) l.fn.self.memory) (l.word % 2 ^ l.j) (fields_say (gaps_of s) l.memory)
