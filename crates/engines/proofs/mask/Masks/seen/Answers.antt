use Rattle.std.proofs.Common.{arith}
use Rattle.engines.proofs.Masked.{mask_tells}
use Rattle.engines.proofs.Signatures.{gap_ordered}
use Rattle.engines.proofs.mask.Masks.seen.Goals as goal

pub returns : goal.returns
returns c =
    let at = c.args.self.now.windows in
    mask_tells at.shape.signature c.args.self.now.masks _ _ (gap_ordered at.shape.signature _ c.requires) (at.allows _ (omega arith))
