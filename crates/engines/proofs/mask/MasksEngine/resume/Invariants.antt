use Rattle.std.proofs.Common.{◌≡◌, take}
use Rattle.engines.specs.Masked.{masks_say}
use Rattle.engines.specs.Memory.{Recalls}
use Rattle.engines.proofs.mask.MasksEngine.resume.Given as goal

-- the memory is that of the words so far
abbrev pub invariant-loop-word : goal.invariant-loop-word
invariant-loop-word l =
    (l.self.windows ≡ l.initial.self.windows)
    × Recalls l.initial.self.windows.shape.signature (take l.word-index l.word-items) (masks_say l.self.masks)
