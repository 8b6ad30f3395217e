use Rattle.std.proofs.Common.{◌≡◌, ◌+◌, ◌-◌, ◌<◌, List, length, ap, ◌∙◌, subst, arith, rules}
use Rattle.runs.specs.declared.gap.Gap.{Gap}
use Rattle.runs.specs.Gaps.{low, high}
use Rattle.engines.proofs.Signatures.{gaps_length, gap_sound}
use Rattle.engines.proofs.Marks.{Ongoing, ongoing_more, cleared, marked_all, kept_all}
use Rattle.engines.proofs.strips.slots.mark_slots.Goals as goal

pub loop-j-preserved : goal.loop-j-preserved
loop-j-preserved c =
    let s = c.args.signature.now in
    let gaps = c.used_gaps-gaps.result.now in
    let j = c.loop-j.j in
    let few : j < 31 = (gap_sound s gaps j c.used_gaps-gaps.ensures c.loop-j-test.true).few in
    let long : length gaps ≡ s.slots - 1 = ap length c.used_gaps-gaps.ensures ∙ gaps_length s in
    let room : j + 1 < length c.args.columns.now = omega (arith, c.requires.few) in
    ongoing_more (length c.args.columns.now) s c.args.masks.now c.args.columns.now j c.loop-j.columns c.loop-j.masks c.loop-j.ended few room c.loop-j.invariant (low gaps j) (high gaps j) c.reached.result
    (ap (λ (gs : List Gap). low gs j) c.used_gaps-gaps.ensures) (ap (λ (gs : List Gap). high gs j) c.used_gaps-gaps.ensures) c.reached.ensures

pub returns : goal.returns
returns c =
    let s = c.args.signature.now in
    let gaps = c.used_gaps-gaps.result.now in
    let w = length c.args.columns.now in
    let long : length gaps ≡ s.slots - 1 = ap length c.used_gaps-gaps.ensures ∙ gaps_length s in
    let done : c.loop-j.j ≡ length gaps = omega arith in
    let have = subst (λ n. Ongoing w s c.args.masks.now c.args.columns.now n c.loop-j.columns c.loop-j.masks c.loop-j.ended) done c.loop-j.invariant in
    let clear = cleared w (length gaps + 1) _ c.loop-j.columns c.fill.new.self (omega arith) (omega (arith, c.requires.few)) (search rules) (c.fill.ensures.after (λ y e. e)) in
    record {
      marks = marked_all w s c.args.masks.now c.args.columns.now (length gaps) c.loop-j.columns c.loop-j.masks _ c.loop-j.ended long have clear;
      kept = kept_all w s c.args.masks.now c.args.columns.now (length gaps) c.loop-j.columns c.loop-j.masks _ c.loop-j.ended long have clear;
    }
