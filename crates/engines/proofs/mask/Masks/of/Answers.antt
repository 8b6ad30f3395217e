use Rattle.engines.proofs.Masked.{masks_blank}
use Rattle.engines.proofs.mask.Masks.of.Goals as goal

pub returns-clause-memory : goal.returns-clause-memory
returns-clause-memory c = masks_blank
