use Rattle.std.proofs.Common.{◌≡◌, ◌+◌, ◌-◌, ◌^◌, ◌<◌, ◌≤◌, arith, rules}
use Rattle.engines.proofs.Smears.{up_to, down_to, window_tells}
use Rattle.engines.proofs.strips.window.reached.Goals as goal

pub loop-by-preserved : goal.loop-by-preserved
loop-by-preserved c =
    let by = c.loop-by.by in
    let pos = c.loop-by.invariant.0 in
    let all = c.loop-by.invariant.1 in
    let le : by ≤ by - 1 + 1 = omega arith in
    let e : by - 1 + by ≡ by + by - 1 = omega arith in
    (omega arith, omega arith, down_to _ (by - 1) _ by _ le e c.loop-by.invariant.2, up_to _ (by - 1) _ by _ le e c.loop-by.invariant.3)

pub returns : goal.returns
returns c =
    let gap = c.args.gap in
    let by = c.loop-by.by in
    let left = c.loop-by.left in
    let pos = c.loop-by.invariant.0 in
    let all = c.loop-by.invariant.1 in
    let le : left ≤ by - 1 + 1 = omega arith in
    let e : by - 1 + left ≡ gap.hi - gap.lo = omega arith in
    let small : c.args.here < 2 ^ 64 = search rules in
    simp (c.from-2.ensures) (window_tells gap.lo gap.hi c.args.past c.args.here _ _ c.requires.ordered c.requires.narrow small
    (down_to _ (by - 1) _ left _ le e c.loop-by.invariant.2) (up_to _ (by - 1) _ left _ le e c.loop-by.invariant.3))
