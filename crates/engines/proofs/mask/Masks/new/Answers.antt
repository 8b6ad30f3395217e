use Rattle.std.proofs.Common.{rules}
use Rattle.engines.proofs.Masked.{masks_blank}
use Rattle.engines.proofs.mask.Masks.new.Goals as goal

pub returns-clause-memory : goal.returns-clause-memory
returns-clause-memory c = search (rules, masks_blank)
