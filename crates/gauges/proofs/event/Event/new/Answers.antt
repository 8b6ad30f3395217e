use Rattle.gauges.specs.TablesLemmas.{none_held}
use Rattle.gauges.proofs.event.Event.new.Goals as goal

pub returns : goal.returns
returns c j x = none_held 256 j x
