use Rattle.std.proofs.Common.{◌≡◌, ◌+◌, ◌-◌, ◌≤◌, sum_by, length, length-take, ap, rules, tests, arith}
use Rattle.std.proofs.lemmas.Iterator.{YieldsList-from_slice, YieldsList-from_map}
use Rattle.std.proofs.lemmas.Iterator.Adapters.{fits_from_length, at_most_from_yields_List}
use Rattle.std.proofs.lemmas.Iterator.Consumers.{sum_by_from_yields_List}
use Rattle.runs.specs.declared.gap.Gap.{Gap}
use Rattle.runs.specs.Gaps.{spans}
use Rattle.runs.proofs.Gaps.{spans_sum, spans_take, narrow_all}
use Rattle.runs.proofs.signature.Signature.reach.Goals as goal

pub sum-requires-clause-fits : goal.sum-requires-clause-fits
sum-requires-clause-fits c =
    let gs = c.used_gaps.result.now in
    let long : length gs ≤ 31 = simp (c.used_gaps.ensures, length-take) (omega (arith, c.args.self.now.few)) in
    fits_from_length _ _ 31 _ (at_most_from_yields_List (YieldsList-from_slice gs cc) (grind arith)) c.map.ensures.closure (omega arith) (λ x r q k. search (rules, tests))

total : (c : goal.After-sum) → c.sum.result ≡ spans c.used_gaps.result.now
total c =
    let gs = c.used_gaps.result.now in
    let added : c.sum.result ≡ sum_by (λ (g : Gap). g.hi + 1) gs =
    sum_by_from_yields_List (λ (g : Gap). g.hi + 1) gs c.map.result _ c.sum.ensures.ran (YieldsList-from_map _ (λ (g : Gap). g.hi + 1) (YieldsList-from_slice gs cc) c.map.ensures.closure (λ x b q k. search (rules, tests))) in
    omega (arith, added, spans_sum gs)

pub overflow_add-result : goal.overflow_add-result
overflow_add-result c =
    let few = spans_take (c.args.self.now.slots - 1) c.args.self.now.gaps (narrow_all c.args.self.now) in
    omega (arith, total c, ap spans c.used_gaps.ensures, few, c.args.self.now.few)

pub returns : goal.returns
returns c = omega (arith, total c, ap spans c.used_gaps.ensures)
