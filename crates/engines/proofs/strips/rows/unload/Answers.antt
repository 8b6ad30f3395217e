use Rattle.std.proofs.Common.{◌≡◌, subst, arith}
use Rattle.engines.proofs.Packed.{Rows, places, unloaded}
use Rattle.engines.proofs.strips.rows.unload.Goals as goal

pub returns : goal.returns
returns g c =
    let end : c.loop-row.row ≡ g.row.W = omega arith in
    unloaded g.row.W (places c.requires) c.args.rows.now c.loop-row.strip (subst (λ n. Rows g.row.W c.args.rows.now n c.loop-row.strip) end c.loop-row.invariant)
