use Rattle.std.proofs.Common.{refl, ap, ◌∙◌}
use Rattle.engines.specs.declared.windows.Windows.{Windows}
use Rattle.engines.proofs.Masked.{masks_blank}
use Rattle.engines.proofs.Recalled.{recalls_none, recalls_more, recalls_all, moved_shape}
use Rattle.engines.proofs.mask.MasksEngine.resume.Goals as goal

pub loop-word-init : goal.loop-word-init
loop-word-init c = (refl, recalls_none c.args.self.now.windows.shape.signature _ masks_blank)

pub loop-word-preserved : goal.loop-word-preserved
loop-word-preserved c =
    let inv = c.loop-word.invariant in
    let p = c.push.ensures in (
      p.windows ∙ inv.0,
      recalls_more c.args.self.now.windows.shape.signature _ _ _ _ c.loop-word-test.true inv.1 (moved_shape _ _ _ _ _ (ap (λ (w : Windows). w.shape.signature) inv.0) p.memory),
    )

pub returns : goal.returns
returns c =
    let inv = c.loop-word.invariant in
    record {
      shape = ap (λ (w : Windows). w.shape.signature) inv.0;
      memory = recalls_all c.args.self.now.windows.shape.signature c.args.words.now _ _ _ c.newest-word-items.ensures c.loop-word-test.false inv.1;
    }
