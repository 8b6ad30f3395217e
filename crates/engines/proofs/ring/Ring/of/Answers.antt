use Rattle.engines.proofs.Rings.{past_blank}
use Rattle.engines.proofs.ring.Ring.of.Goals as goal

pub returns-clause-memory : goal.returns-clause-memory
returns-clause-memory c = past_blank 0
