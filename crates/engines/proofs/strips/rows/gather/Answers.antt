use Rattle.std.proofs.Common.{◌*◌, ◌≡◌, ◌/◌, ap, ◌∙◌, arith}
use Rattle.engines.proofs.Packed.{places, pieces_more}
use Rattle.engines.proofs.strips.rows.gather.Goals as goal

pub loop-part-preserved : goal.loop-part-preserved
loop-part-preserved g c = simp (c.from.ensures) (pieces_more g.row.W (places c.requires.width) c.args.strip.now c.args.row c.loop-part.part c.loop-part.bits c.loop-part-test.true c.requires.row c.loop-part.invariant)

pub returns : goal.returns
returns g c = λ k l.
    let end : c.loop-part.part ≡ 64 / g.row.W = omega arith in
    let all : g.row.W * c.loop-part.part ≡ 64 = ap (λ n. g.row.W * n) end ∙ (places c.requires.width).end in
    c.loop-part.invariant.done k l (omega (arith, all))
