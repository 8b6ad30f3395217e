use Rattle.gauges.proofs.Derived.{event_exactly}
use Rattle.gauges.proofs.grammar.event_grammar.Goals as goal

pub returns : goal.returns
returns c = event_exactly
