use Rattle.std.proofs.Common.{rules}
use Rattle.engines.proofs.Rings.{ring_moved}
use Rattle.engines.proofs.ring.Ring.push.Goals as goal

pub returns-clause-memory : goal.returns-clause-memory
returns-clause-memory c = let me = c.args.self.now in ring_moved me.shape.signature _ _ _ me.inside (search rules)
