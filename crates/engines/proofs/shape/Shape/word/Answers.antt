use Rattle.std.proofs.Common.{true, false, refl, arith}
use Rattle.std.proofs.lemmas.Bool.{both_ways}
use Rattle.engines.proofs.LowBit.{low_bit}
use Rattle.engines.proofs.Looking.{looking_first, told_first, looking_skip, told_skip, looking_set, told_set, looked, next_slot}
use Rattle.engines.proofs.shape.Shape.word.Goals as goal

pub loop-left-init : goal.loop-left-init
loop-left-init g c = let me = c.args.self.now in (looking_first me.signature _ (omega arith) _ me.after, λ says _. told_first me.signature _ (omega arith) _ me.after says)

pub overflow_sub-slot : goal.overflow_sub-slot
overflow_sub-slot g c = (next_slot _ _ _ _ c.loop-left-test.true c.loop-left.invariant.0).0

pub seen-requires : goal.seen-requires
seen-requires g c = let slot = next_slot _ _ _ _ c.loop-left-test.true c.loop-left.invariant.0 in c.requires _ (omega (arith, slot.0, slot.1))

pub loop-left-preserved-then-seen : goal.loop-left-preserved-then-seen
loop-left-preserved-then-seen g c =
    let inv = c.loop-left.invariant in
    let low = low_bit 32 _ c.loop-left-test.true inv.0.small in
    let slot = next_slot _ _ _ _ c.loop-left-test.true inv.0 in
    (looking_set _ _ _ _ _ low inv.0, λ says tells. told_set _ _ _ _ _ low inv.0 says ((tells _ true (omega (arith, slot.0, slot.1)) c.if-seen.ensures).0 refl) (inv.1 says tells))

pub loop-left-preserved : goal.loop-left-preserved
loop-left-preserved g c =
    let inv = c.loop-left.invariant in
    let low = low_bit 32 _ c.loop-left-test.true inv.0.small in
    let slot = next_slot _ _ _ _ c.loop-left-test.true inv.0 in
    (looking_skip _ _ _ _ _ low inv.0, λ says tells. told_skip _ _ _ _ _ low inv.0 says (λ seen. both_ways false refl ((tells _ false (omega (arith, slot.0, slot.1)) c.if-seen.ensures).1 seen)) (inv.1 says tells))

pub returns : goal.returns
returns g c = λ says tells. looked _ _ _ _ says c.loop-left-test.false c.loop-left.invariant.0 (c.loop-left.invariant.1 says tells)
