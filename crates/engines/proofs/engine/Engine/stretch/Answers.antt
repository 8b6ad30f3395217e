use Rattle.std.proofs.Common.{◌≡◌, ◌<◌, ◌≢◌, length, get_or, refl, ◌∙◌, subst, arith, get_or-set_other}
use Rattle.runs.specs.declared.signature.Signature.{Signature}
use Rattle.engines.specs.Memory.{Stepped, Moved, Steps}
use Rattle.engines.proofs.Chains.{steps_none, steps_set}
use Rattle.engines.proofs.engine.Engine.stretch.Goals as goal

pub loop-word-init : goal.loop-word-init
loop-word-init g c = (refl, steps_none _ _ _ _, λ k l. refl)

pub loop-word-preserved : goal.loop-word-preserved
loop-word-preserved g c =
    let inv = c.loop-word.invariant in
    let engine = g.Self.Engine in
    let s = engine.shape c.args.self.now in
    let middle = engine.says c.loop-word.self in
    let after = engine.says c.step.new.self in
    let words = c.loop-word.word-items in
    let i = c.loop-word.word-index in
    let w = c.step.result in
    let lt : i < length words = omega arith in
    let stepped = subst (λ (t : Signature). Stepped t middle (get_or words i 0) w) inv.0 c.step.ensures.word in
    let moved = subst (λ (t : Signature). Moved t middle w after) inv.0 c.step.ensures.memory in (
      c.step.ensures.shape ∙ inv.0,
      steps_set s _ _ _ middle after i w lt inv.1 (subst (λ f. Stepped s middle f w) (inv.2 i (omega arith)) stepped) moved,
      λ k l. let ne : k ≢ i = omega arith in get_or-set_other words i k w 0 ne ∙ inv.2 k (omega arith),
    )

pub returns : goal.returns
returns g c =
    let inv = c.loop-word.invariant in
    let engine = g.Self.Engine in
    let self = c.args.self.now in
    let fits = c.args.words.now in
    let e : c.loop-word.word-index ≡ length fits = omega arith in
    record {
      shape = inv.0;
      chain = record {
        long = omega arith;
        steps = subst (λ n. Steps (engine.shape self) fits c.loop-word.word-items (engine.says self) n (engine.says c.loop-word.self)) e inv.1;
      };
    }
