use Rattle.std.proofs.Common.{rules}
use Rattle.engines.proofs.Masked.{masks_blank}
use Rattle.engines.proofs.Recalled.{recalls_none}
use Rattle.engines.proofs.mask.MasksEngine.make.Goals as goal

pub returns-clause-memory : goal.returns-clause-memory
returns-clause-memory c = recalls_none c.args.signature.now _ (search (rules, masks_blank))
