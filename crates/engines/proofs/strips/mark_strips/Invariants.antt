use Rattle.std.proofs.Common.{◌≡◌, ℕ, ◌*◌, ◌≤◌, get_or}
use Rattle.engines.specs.Masked.{masks_say}
use Rattle.engines.specs.Memory.{Steps}
use Rattle.engines.proofs.strips.mark_strips.Given as goal

-- the strips so far are marked, and the fits past them are as they were
abbrev pub invariant-loop-strip : goal.invariant-loop-strip
invariant-loop-strip l =
    Steps l.signature l.initial.words l.words (masks_say l.initial.masks) (64 * l.strip) (masks_say l.masks)
    × ((k : ℕ) → 64 * l.strip ≤ k → get_or l.words k 0 ≡ get_or l.initial.words k 0)
