use Rattle.std.proofs.Common.{◌≡◌, ℕ, ◌+◌, ◌-◌, ◌<◌, ◌≤◌, List, length, sym, ap, ◌∙◌, subst, arith}
use Rattle.runs.specs.declared.gap.Gap.{Gap}
use Rattle.runs.specs.declared.signature.Signature.{Signature}
use Rattle.runs.specs.Gaps.{high, reach}
use Rattle.runs.specs.Signatures.{gaps_of}
use Rattle.engines.specs.Blocks.{block}
use Rattle.engines.specs.Fields.{offset}
use Rattle.engines.proofs.Fields.{inside, spans_offset}
use Rattle.engines.proofs.Laid.{Laid, laid_none, laid_more}
use Rattle.engines.proofs.Signatures.{gaps_length, gap_sound}
use Rattle.engines.proofs.layout.Layout.new.Goals as goal

-- the field of the next gap ends below bit 63
end : (s : Signature) (gs : List Gap) (j at : ℕ) → gs ≡ gaps_of s → reach (gaps_of s) ≤ 64 → j < length gs → at ≡ offset gs j → at + high gs j < 63
end s gs j at e near l here =
    let i = inside gs j (high gs j) (subst (λ (xs : List Gap). reach xs ≤ 64) (sym e) near) l (omega arith) in
    omega arith

pub loop-j-init : goal.loop-j-init
loop-j-init c = laid_none _

pub overflow_cast-fields : goal.overflow_cast-fields
overflow_cast-fields c = omega (arith, end c.args.signature.now _ _ _ c.used_gaps-gaps.ensures c.requires c.loop-j-test.true c.loop-j.invariant.here)

pub overflow_shl-fields : goal.overflow_shl-fields
overflow_shl-fields c = omega (arith, end c.args.signature.now _ _ _ c.used_gaps-gaps.ensures c.requires c.loop-j-test.true c.loop-j.invariant.here)

pub overflow_add-at : goal.overflow_add-at
overflow_add-at c = omega (arith, end c.args.signature.now _ _ _ c.used_gaps-gaps.ensures c.requires c.loop-j-test.true c.loop-j.invariant.here, (gap_sound c.args.signature.now _ _ c.used_gaps-gaps.ensures c.loop-j-test.true).ordered)

pub overflow_sub-gap : goal.overflow_sub-gap
overflow_sub-gap c = (gap_sound c.args.signature.now _ _ c.used_gaps-gaps.ensures c.loop-j-test.true).ordered

pub ones-requires : goal.ones-requires
ones-requires c = omega (arith, end c.args.signature.now _ _ _ c.used_gaps-gaps.ensures c.requires c.loop-j-test.true c.loop-j.invariant.here, (gap_sound c.args.signature.now _ _ c.used_gaps-gaps.ensures c.loop-j-test.true).ordered)

pub ones-keep-requires : goal.ones-keep-requires
ones-keep-requires c = omega (arith, end c.args.signature.now _ _ _ c.used_gaps-gaps.ensures c.requires c.loop-j-test.true c.loop-j.invariant.here)

pub overflow_add-at-in-loop-j-2 : goal.overflow_add-at-in-loop-j-2
overflow_add-at-in-loop-j-2 c = omega (arith, end c.args.signature.now _ _ _ c.used_gaps-gaps.ensures c.requires c.loop-j-test.true c.loop-j.invariant.here)

pub loop-j-preserved : goal.loop-j-preserved
loop-j-preserved c =
    simp (c.from-in-loop-j-3.ensures) (laid_more _ _ _ _ _ (gap_sound c.args.signature.now _ _ c.used_gaps-gaps.ensures c.loop-j-test.true).few (omega (arith, end c.args.signature.now _ _ _ c.used_gaps-gaps.ensures c.requires c.loop-j-test.true c.loop-j.invariant.here)) c.loop-j.invariant _ _ (c.ones-keep.ensures ∙ ap (block c.loop-j.at) c.from-in-loop-j-2.ensures)
    (simp (c.from.ensures, c.from-in-loop-j.ensures) at c.ones.ensures))

pub invariant_of-result : goal.invariant_of-result
invariant_of-result c =
    let s = c.new.result.signature in
    let l = c.loop-j in
    let same : c.used_gaps-gaps.result.now ≡ gaps_of s = c.used_gaps-gaps.ensures ∙ ap gaps_of (sym c.new.ensures) in
    let n = gaps_length s in
    let e : l.j ≡ s.slots - 1 = omega (arith, c.loop-j-test.false, l.auto.j-end, ap length same) in
    let laid : Laid (gaps_of s) (s.slots - 1) l.at l.keep l.fields =
    subst (λ j. Laid (gaps_of s) j l.at l.keep l.fields) e (subst (λ (gs : List Gap). Laid gs l.j l.at l.keep l.fields) same l.invariant) in
    record {
      room = omega (arith, ap (offset (gaps_of s)) n, spans_offset (gaps_of s), ap (λ (s : Signature). reach (gaps_of s)) c.new.ensures, c.requires);
      begun = laid.begun;
      idle = laid.idle;
      opened = laid.opened;
      stays = laid.keeps;
    }
