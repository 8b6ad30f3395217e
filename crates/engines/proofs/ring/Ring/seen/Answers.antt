use Rattle.std.proofs.Common.{ℕ, ◌+◌, ◌-◌, ◌≤◌, Bool, ap, arith, rules, of_calls, refl, sym, ◌∙◌}
use Rattle.std.proofs.lemmas.Iterator.{serves_from_Range, YieldsList-from_range}
use Rattle.std.proofs.lemmas.Iterator.Search.{any_from_yields_List}
use Rattle.runs.specs.declared.gap.Gap.{Gap}
use Rattle.engines.specs.Rings.{past_says}
use Rattle.engines.proofs.Rings.{any_from}
use Rattle.engines.proofs.Signatures.{gap_narrow}
use Rattle.engines.proofs.ring.Ring.seen.Goals as goal

pub any-requires-clause-callable : goal.any-requires-clause-callable
any-requires-clause-callable c =
    let narrow : c.gap_at-gap.result.hi ≤ 63 = omega (arith, ap (λ (g : Gap). g.hi) c.gap_at-gap.ensures, gap_narrow c.args.self.now.shape.signature c.args.j c.requires) in
    serves_from_Range (λ x q h. search (rules, of_calls)) (λ x l h. search (rules, of_calls))

pub returns : goal.returns
returns c =
    let me = c.args.self.now in
    let says : ℕ → Bool = λ d. past_says me.past me.next c.args.j d in
    let found = any_from_yields_List says _ _ c.any.result c.any.ensures.ran (YieldsList-from_range c.from.result (c.from-2.result + 1) (c.from-2.result + 1 - c.from.result) refl refl) (λ x b q h. search (rules, of_calls)) in
    let tells = any_from says c.from.result (c.from-2.result + 1 - c.from.result) in
    let g = c.gap_at-gap.ensures in
    let lo = c.from.ensures ∙ ap (λ (g : Gap). g.lo) g in
    let hi = c.from-2.ensures ∙ ap (λ (g : Gap). g.hi) g in (
      (λ b. let r = tells.0 (sym found ∙ b) in (r.0, omega (arith, r.1, lo), omega (arith, r.2, hi), r.3)),
      (λ h. found ∙ tells.1 (h.0, omega (arith, h.1, lo), omega (arith, h.2, hi), h.3)),
    )
