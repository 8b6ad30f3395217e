use Rattle.std.proofs.Common.{◌≡◌, ◌+◌, ◌-◌, ◌*◌, ◌%◌, ◌^◌, ◌≤◌}
use Rattle.engines.proofs.Smears.{Up, Down}
use Rattle.engines.proofs.strips.window.reached.Given as goal

-- both words are joined with their shifts below `by`
abbrev pub invariant-loop-by : goal.invariant-loop-by
invariant-loop-by l =
    (1 ≤ l.by) × (l.by + l.left ≡ (l.gap.hi - l.gap.lo) + 1)
    × Down l.here (l.by - 1) l.later × Up ((l.past * 2 ^ (63 - l.gap.hi)) % 2 ^ 64) (l.by - 1) l.earlier

abbrev pub decreases-loop-by : goal.decreases-loop-by
decreases-loop-by l = l.left
