use Rattle.gauges.proofs.Begins.{event_goes_on, event_begins}
use Rattle.gauges.proofs.grammar.event_beginnings.Goals as goal

pub returns : goal.returns
returns c = record { goes = event_goes_on; begins = event_begins }
