use Rattle.std.proofs.Common.{◌≡◌, ◌∙◌, rules}
use Rattle.gauges.specs.Currents.{banded}
use Rattle.gauges.specs.Bands.{slot_more}
use Rattle.gauges.proofs.current.CurrentGauge.try_reading.Goals as goal

pub loop-slot-preserved : goal.loop-slot-preserved
loop-slot-preserved c j =
    let bands = c.args.self.now.bands in
    let x = c.args.reading.now in
    let slot = c.loop-slot.slot in
    let is : c.is_some_and-on.result ≡ banded bands slot x = search rules in
    c.with_bit-word.ensures j ∙ slot_more bands x slot j _ _ is (c.loop-slot.invariant j)
