use Rattle.std.proofs.Common.{rules}
use Rattle.engines.proofs.Recalled.{recalls_none}
use Rattle.engines.proofs.Rings.{past_blank}
use Rattle.engines.proofs.ring.RingEngine.make.Goals as goal

pub returns-clause-memory : goal.returns-clause-memory
returns-clause-memory c = recalls_none c.args.signature.now _ (search (rules, past_blank))
