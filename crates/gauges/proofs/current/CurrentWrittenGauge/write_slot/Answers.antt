use Rattle.std.proofs.Common.{◌<◌, Some, None, rules, arith}
use Rattle.std.proofs.lemmas.Bool.Decides.{nat_tests}
use Rattle.gauges.specs.Bands.{put_band, band_end, band_set, no_band_end, no_band_set}
use Rattle.gauges.proofs.current.CurrentWrittenGauge.write_slot.Goals as goal

pub returns-in-Ok : goal.returns-in-Ok
returns-in-Ok c =
    let s = c.args.text.now in
    let at = c.args.at in
    let slot = c.args.slot in
    let few : slot < 32 = grind (arith, nat_tests, c.in_ok-check_slot.ensures) in
    let read = c.in-Ok.read in
    let is = c.in-Ok.ensures.value in
    record {
      value = band_end s at slot few read is;
      wrote = put_band c.args.self.now.bands slot (Some read.value) _ (search rules) (band_set s at slot few read is);
    }

pub returns-in-Err : goal.returns-in-Err
returns-in-Err c =
    let s = c.args.text.now in
    let at = c.args.at in
    let slot = c.args.slot in
    let few : slot < 32 = grind (arith, nat_tests, c.in_ok-check_slot.ensures) in
    let is = c.in-Err.ensures.value in
    record {
      value = no_band_end s at slot few _ is;
      wrote = put_band c.args.self.now.bands slot None _ (search rules) (no_band_set s at slot few _ is);
    }
