use Rattle.std.proofs.Common.{◌≡◌, ℕ, ◌≤◌, get_or}
use Rattle.engines.specs.Memory.{Steps}
use Rattle.engines.specs.Masked.{masks_say}
use Rattle.engines.proofs.mask.MasksEngine.stretch.Given as goal

-- past the strips the words before the index are made, and the fits from it on are as they were
abbrev pub invariant-loop-word : goal.invariant-loop-word
invariant-loop-word l =
    let s = l.fn.self.windows.shape.signature in
    (l.self.windows.shape.signature ≡ s)
    × Steps s l.initial.word-items l.word-items (masks_say l.initial.self.masks) l.word-index (masks_say l.self.masks)
    × ((k : ℕ) → l.word-index ≤ k → get_or l.word-items k 0 ≡ get_or l.initial.word-items k 0)
