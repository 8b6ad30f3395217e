use Rattle.std.proofs.Common.{arith}
use Rattle.engines.proofs.Blocks.{block_made, block_lt}
use Rattle.engines.proofs.ones.ones.Goals as goal

pub overflow_cast-result-3 : goal.overflow_cast-result-3
overflow_cast-result-3 c =
    let from = c.args.from in
    let count = c.args.count in
    omega (arith, block_made from count 128 (omega (arith, c.requires)), block_lt from count 64 c.requires)

pub returns : goal.returns
returns c = block_made c.args.from c.args.count 128 (omega (arith, c.requires))
