use Rattle.std.proofs.Common.{◌≡◌, ℕ, ◌+◌, ◌-◌, ◌<◌, ◌≤◌, ◌≢◌, List, [], ◌++◌, length, get_or, take, drop, refl, ap, ◌∙◌, subst, sym, append-nil, arith, get_or-set_other, length-append, length-drop}
use Rattle.std.proofs.lemmas.List.{take_rest, drop_all, length-take-le}
use borrow.Rule.Slice.PartMut.{post_of}
use Rattle.runs.specs.declared.signature.Signature.{Signature}
use Rattle.engines.specs.Memory.{Stepped, Moved, Steps}
use Rattle.engines.proofs.Chains.{steps_none, steps_set}
use Rattle.engines.proofs.Joined.{steps_rest}
use Rattle.engines.specs.Masked.{masks_say}
use Rattle.engines.proofs.mask.MasksEngine.stretch.Goals as goal

pub loop-word-init : goal.loop-word-init
loop-word-init c = (refl, steps_none _ _ _ _, λ k l. refl)

pub loop-word-preserved : goal.loop-word-preserved
loop-word-preserved c =
    let inv = c.loop-word.invariant in
    let s = c.args.self.now.windows.shape.signature in
    let middle = masks_say c.loop-word.self.masks in
    let after = masks_say c.step.new.self.masks in
    let words = c.loop-word.word-items in
    let i = c.loop-word.word-index in
    let w = c.step.result in
    let lt : i < length words = omega arith in
    let stepped = subst (λ (t : Signature). Stepped t middle (get_or words i 0) w) inv.0 c.step.ensures.word in
    let moved = subst (λ (t : Signature). Moved t middle w after) inv.0 c.step.ensures.memory in (
      c.step.ensures.shape ∙ inv.0,
      steps_set s _ _ _ middle after i w lt inv.1 (subst (λ f. Stepped s middle f w) (inv.2 i (omega arith)) stepped) moved,
      λ k l. let ne : k ≢ i = omega arith in get_or-set_other words i k w 0 ne ∙ inv.2 k (omega arith),
    )

pub returns : goal.returns
returns c =
    let inv = c.loop-word.invariant in
    let s = c.args.self.now.windows.shape.signature in
    let fits = c.args.words.now in
    let says = masks_say c.args.self.now.masks in
    let marked = c.mark_strips-done.new.words in
    let n = c.mark_strips-done.result in
    let done = c.mark_strips-done.ensures in
    let rest = c.loop-word.word-items in
    let after = masks_say c.loop-word.self.masks in
    let near : n ≤ length marked = omega (arith, done.whole) in
    let long : length rest ≡ length marked - n = simp (take_rest, length-drop) at c.loop-word.auto.word-items in
    let none : post_of n (length marked - n) marked ≡ [] = drop_all (length marked - n) (drop n marked) (omega (arith, length-drop n marked)) in
    let new : List ℕ = take n marked ++ (rest ++ post_of n (length marked - n) marked) in
    let whole : new ≡ take n marked ++ rest = ap (λ (ws : List ℕ). take n marked ++ (rest ++ ws)) none ∙ ap (λ (ws : List ℕ). take n marked ++ ws) (append-nil rest) in
    let all : n + length rest ≡ length fits = omega arith in
    let e : c.loop-word.word-index ≡ length rest = omega arith in
    let steps : Steps s (drop n marked) rest (masks_say c.mark_strips-done.new.masks) (length rest) after =
    subst (λ i. Steps s (drop n marked) rest (masks_say c.mark_strips-done.new.masks) i after) e
    (subst (λ (ws : List ℕ). Steps s ws rest (masks_say c.mark_strips-done.new.masks) c.loop-word.word-index after) (take_rest marked n) inv.1) in
    record {
      shape = inv.0;
      chain = record {
        long = ap length whole ∙ length-append (take n marked) rest ∙ omega (arith, length-take-le n marked near);
        steps = subst (λ i. Steps s fits new says i after) all
            (subst (λ (ws : List ℕ). Steps s fits ws says (n + length rest) after) (sym whole)
            (steps_rest s fits marked rest says _ after n near done.steps done.rest steps));
      };
    }
