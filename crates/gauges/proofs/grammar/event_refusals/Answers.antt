use Rattle.gauges.proofs.Alike.{event_looks, event_alike}
use Rattle.gauges.proofs.grammar.event_refusals.Goals as goal

pub returns : goal.returns
returns c = record { looks = event_looks; alike = event_alike }
