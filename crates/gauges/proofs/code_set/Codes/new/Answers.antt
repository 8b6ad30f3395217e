use Rattle.std.proofs.Common.{false}
use Rattle.gauges.specs.TablesLemmas.{get_or_replicate_same}
use Rattle.gauges.proofs.code_set.Codes.new.Goals as goal

pub returns : goal.returns
returns c = get_or_replicate_same 256 false
