use Rattle.std.proofs.Common.{◌≡◌, ℕ, ◌≤◌, get_or}
use Rattle.engines.specs.Memory.{Steps}
use Rattle.engines.proofs.engine.Engine.stretch.Given as goal

-- the words before the index are made, and the fits from it on are as they were
abbrev pub invariant-loop-word : goal.invariant-loop-word
invariant-loop-word g l =
    let e = g.Self.Engine in
    let s = e.shape l.fn.self in
    (e.shape l.self ≡ s) × Steps s l.fn.words l.word-items (e.says l.fn.self) l.word-index (e.says l.self)
    × ((k : ℕ) → l.word-index ≤ k → get_or l.word-items k 0 ≡ get_or l.fn.words k 0)
