use Rattle.std.proofs.Common.{◌≡◌, ◌+◌, max, fold, unwrap_or, ap, ◌∙◌, rules, tests, arith}
use Rattle.std.proofs.lemmas.Iterator.{YieldsList-from_slice, YieldsList-from_map}
use Rattle.std.proofs.lemmas.Iterator.Consumers.{reduce_from_yields_List}
use Rattle.std.proofs.lemmas.List.Folds.{max_of_map}
use Rattle.runs.specs.declared.gap.Gap.{Gap}
use Rattle.runs.specs.Gaps.{window}
use Rattle.runs.proofs.Gaps.{widest}
use Rattle.runs.proofs.signature.Signature.window.Goals as goal

pub returns : goal.returns
returns c =
    let gs = c.used_gaps.result.now in
    let most : c.unwrap_or.result ≡ fold (λ a (g : Gap). max a (g.hi + 1)) 0 gs =
    c.unwrap_or.ensures ∙ ap (λ o. unwrap_or o 0) (reduce_from_yields_List _ c.map.result _ c.max.ensures.ran (YieldsList-from_map _ (λ (g : Gap). g.hi + 1) (YieldsList-from_slice gs cc) c.map.ensures.closure (λ x b q k. search (rules, tests)))) ∙ max_of_map (λ (g : Gap). g.hi + 1) gs in
    omega (arith, most, widest 0 gs, ap window c.used_gaps.ensures)
