use Rattle.std.proofs.Common.{◌≡◌, ◌/◌, subst, arith}
use Rattle.engines.proofs.Tables as table
use Rattle.engines.proofs.Stages.{Partly, partly_more, exchanged}
use Rattle.engines.proofs.strips.turn.stage.Goals as goal

pub swap-requires : goal.swap-requires
swap-requires g c =
    let w = c.requires.stage in (
      omega (arith, table.few g.row.W c.args.by w),
      (table.inside g.row.W c.args.by w c.loop-pair.pair c.loop-pair-test.true, (table.pos g.row.W c.args.by w, table.small g.row.W c.args.by w)),
    )

pub loop-pair-preserved : goal.loop-pair-preserved
loop-pair-preserved g c =
    partly_more g.row.W c.args.by c.args.mask c.requires.stage c.requires.mask c.loop-pair.pair c.loop-pair-test.true c.args.rows.now c.loop-pair.rows c.swap.new.rows c.loop-pair.invariant c.swap.ensures

pub returns : goal.returns
returns g c =
    let end : c.loop-pair.pair ≡ g.row.W / 2 = omega arith in
    exchanged g.row.W c.args.by c.requires.stage c.args.rows.now c.loop-pair.rows (subst (λ i. Partly g.row.W c.args.by i c.args.rows.now c.loop-pair.rows) end c.loop-pair.invariant)
