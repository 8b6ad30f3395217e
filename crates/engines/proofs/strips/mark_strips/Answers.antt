use Rattle.std.proofs.Common.{◌≡◌, ◌+◌, ◌*◌, ◌-◌, ◌≤◌, length, sym, refl, ◌∙◌, subst, arith, rules}
use Rattle.engines.specs.Masked.{masks_say}
use Rattle.engines.specs.Memory.{Steps}
use borrow.Rule.Slice.PartMut.{put_mid}
use Rattle.engines.proofs.Chains.{steps_none}
use Rattle.engines.proofs.Joined.{steps_strip}
use Rattle.engines.proofs.Placed.{put_past}
use Rattle.engines.proofs.strips.mark_strips.Goals as goal

pub loop-strip-init : goal.loop-strip-init
loop-strip-init c = (steps_none c.args.signature.now _ _ _, λ k l. refl)

pub loop-strip-preserved : goal.loop-strip-preserved
loop-strip-preserved c =
    let s = c.args.signature.now in
    let words = c.loop-strip.words in
    let strip = c.mark_strip.new.words in
    let n = 64 * c.loop-strip.strip in
    let k = n + 64 - n in
    let whole : k ≡ 64 = omega arith in
    let room : n + 64 ≤ length words = search rules in
    let long : length strip ≡ 64 = search rules in
    let next : n + 64 ≡ 64 * (c.loop-strip.strip + 1) = omega arith in
    let inv = c.loop-strip.invariant in (
      subst (λ m. Steps s c.args.words.now (put_mid n k words strip) (masks_say c.args.masks.now) m (masks_say c.mark_strip.new.masks)) next
          (steps_strip s c.args.words.now words strip (masks_say c.args.masks.now) c.loop-strip.masks c.mark_strip.new.masks n k whole room long inv.0 inv.1 c.mark_strip.ensures),
      λ i l. put_past n k words strip (omega arith) i (omega arith) (long ∙ sym whole) ∙ inv.1 i (omega arith),
    )
