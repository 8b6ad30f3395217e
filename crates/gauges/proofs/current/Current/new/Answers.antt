use Rattle.gauges.specs.Bands.{none_banded}
use Rattle.gauges.proofs.current.Current.new.Goals as goal

pub returns : goal.returns
returns c j x = none_banded 32 j x
