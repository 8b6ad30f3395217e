use Rattle.std.proofs.Common.{◌+◌, ◌<◌, length, arith}
use Rattle.engines.proofs.Swaps.{swapped}
use Rattle.engines.proofs.strips.turn.swap.Goals as goal

pub returns : goal.returns
returns g c =
    let upper : c.args.upper < length c.args.rows.now = omega (arith, c.told-rows) in
    let lower : c.args.upper + c.args.by < length c.args.rows.now = omega (arith, c.told-rows) in
    swapped c.args.rows.now c.args.upper (c.args.upper + c.args.by) c.args.by c.args.mask upper lower (λ e. omega arith)
