use Rattle.std.proofs.Common.{rules, of_calls}
use Rattle.engines.specs.Rings.{past_says}
use Rattle.engines.proofs.ring.Ring.word.Goals as goal

pub returns : goal.returns
returns c = c.word.ensures (past_says c.args.self.now.past c.args.self.now.next) (λ j b l p. search (rules, of_calls))
