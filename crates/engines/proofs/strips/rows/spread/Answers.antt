use Rattle.std.proofs.Common.{arith}
use Rattle.engines.proofs.Packed.{places, spreading_more, spread_all}
use Rattle.engines.proofs.strips.rows.spread.Goals as goal

pub loop-part-preserved : goal.loop-part-preserved
loop-part-preserved g c =
    spreading_more g.row.W (places c.requires.width) c.args.row c.args.bits c.loop-part.part c.args.strip.now c.loop-part.strip c.loop-part-test.true c.requires.row c.loop-part.invariant

pub returns : goal.returns
returns g c = spread_all g.row.W (places c.requires.width) c.args.row c.args.bits c.loop-part.part c.args.strip.now c.loop-part.strip (omega arith) (omega arith) c.loop-part.invariant
