use Rattle.gauges.specs.Pairs.{parts_at}
use Rattle.gauges.specs.PairsLemmas.{put_joined}
use Rattle.gauges.proofs.pair.PairWrittenGauge.write_slot.Goals as goal

pub returns-clause-wrote : goal.returns-clause-wrote
returns-clause-wrote g c =
    let told = c.write_pair.ensures in
    let parts = parts_at g.K.Joint.MARK g.L.WrittenGauge.reads g.R.WrittenGauge.reads c.args.text.now c.args.at in
    let old = c.args.self.now in
    let new = c.write_pair.new.self in
    rw g.met.K.Joint.spelled
    (put_joined g.K.Joint.join c.args.slot (g.L.Gauge.sets old.left) (g.L.Gauge.sets new.left) (g.R.Gauge.sets old.right) (g.R.Gauge.sets new.right) g.met.K.Joint.empty parts told.left told.right)
