use Rattle.std.proofs.Common.{◌^◌, ◌<◌, not, refl, ap, arith}
use lib.Bits.{and_le_r}
use Rattle.std.proofs.lemmas.Bool.{eqb-false, not-true, ne_eqb}
use Rattle.runs.specs.Bits.{bit}
use Rattle.engines.proofs.Bits.{set_same, set_other}
use Rattle.engines.proofs.Fields.{moved_first, moved_set, opened_before, window_tells}
use Rattle.engines.proofs.LowBit.{low_bit}
use Rattle.engines.proofs.Looking.{looking_first, told_first, looking_skip, told_skip, looking_set, told_set, looked, next_slot}
use Rattle.engines.proofs.Recalled.{moved_word}
use Rattle.engines.proofs.Signatures.{gap_ordered}
use Rattle.engines.proofs.word.WordEngine.step.Goals as goal

pub loop-left-init : goal.loop-left-init
loop-left-init c =
    let at = c.args.self.now.layout in
    let s = at.shape.signature in
    let small : c.from.result < 2 ^ 1 = omega (arith, and_le_r c.args.fits 1, c.from.ensures) in
    (looking_first s _ (omega arith) _ at.shape.after, told_first s _ (omega arith) _ at.shape.after _, moved_word s _ _ _ _ (λ j _. ap (λ w. bit w j) c.from.ensures) (moved_first s at.room _ at.keep at.stays _ small))

pub loop-left-preserved-then-self-field-ne0 : goal.loop-left-preserved-then-self-field-ne0
loop-left-preserved-then-self-field-ne0 c =
    let me = c.args.self.now in
    let at = me.layout in
    let s = at.shape.signature in
    let inv = c.loop-left.invariant in
    let low = low_bit 32 _ c.loop-left-test.true inv.0.small in
    let slot = next_slot _ _ _ _ c.loop-left-test.true inv.0 in
    let tells = window_tells s me.memory _ _ (gap_ordered s _ (omega (arith, slot.0, slot.1))) (opened_before _ _ at.fields at.opened _ slot.0 (omega (arith, slot.0, slot.1))) in (
      looking_set _ _ _ _ _ low inv.0,
      told_set _ _ _ _ _ low inv.0 _ (tells.0 (ap not (ne_eqb _ 0 c.if-self-field-ne0.true))) inv.1,
      moved_set _ _ _ _ _ _ inv.2 (set_same 32 _ _ low.inside) (λ i ne. set_other 32 _ _ i low.inside ne) _ (at.begun _) (at.idle _),
    )

pub loop-left-preserved : goal.loop-left-preserved
loop-left-preserved c =
    let me = c.args.self.now in
    let at = me.layout in
    let s = at.shape.signature in
    let inv = c.loop-left.invariant in
    let low = low_bit 32 _ c.loop-left-test.true inv.0.small in
    let slot = next_slot _ _ _ _ c.loop-left-test.true inv.0 in
    let tells = window_tells s me.memory _ _ (gap_ordered s _ (omega (arith, slot.0, slot.1))) (opened_before _ _ at.fields at.opened _ slot.0 (omega (arith, slot.0, slot.1))) in
    (looking_skip _ _ _ _ _ low inv.0, told_skip _ _ _ _ _ low inv.0 _ (λ seen. eqb-false _ 0 (not-true _ (tells.1 seen)) c.if-self-field-ne0.false) inv.1, inv.2)

pub returns : goal.returns
returns c =
    let inv = c.loop-left.invariant in
    record { shape = refl; word = looked _ _ _ _ _ c.loop-left-test.false inv.0 inv.1; memory = inv.2 }
