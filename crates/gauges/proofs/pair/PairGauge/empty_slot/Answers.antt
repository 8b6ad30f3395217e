use Rattle.signature.specs.Sets.{nothing}
use Rattle.gauges.specs.PairsLemmas.{put_both}
use Rattle.gauges.proofs.pair.PairGauge.empty_slot.Goals as goal

pub returns : goal.returns
returns g c =
    let told = c.empty_pair.ensures in
    let old = c.args.self.now in
    let new = c.empty_pair.new.self in
    put_both g.K.Joint.join c.args.slot (g.L.Gauge.sets old.left) (g.L.Gauge.sets new.left) (g.R.Gauge.sets old.right) (g.R.Gauge.sets new.right) nothing nothing nothing g.met.K.Joint.empty told.left told.right
