use Rattle.std.proofs.Common.{◌<◌, cond, sym, ap, ◌∙◌, rules, arith}
use Rattle.std.specs.Bool.{◌==◌}
use Rattle.std.proofs.lemmas.Bool.Decides.{nat_tests}
use Rattle.signature.specs.Slots.{set_of}
use Rattle.gauges.specs.Codes.{event_at}
use Rattle.gauges.specs.Tables.{held}
use Rattle.gauges.specs.TablesLemmas.{put_codes}
use Rattle.gauges.proofs.Events.{event_end, event_low, event_high, event_none}
use Rattle.gauges.proofs.event.EventWrittenGauge.write_slot.Goals as goal

pub returns-in-Ok : goal.returns-in-Ok
returns-in-Ok c =
    let s = c.args.text.now in
    let at = c.args.at in
    let few : c.args.slot < 32 = grind (arith, nat_tests, c.in_ok-check_slot.ensures) in
    let told = c.in-Ok.ensures in
    record {
      value = told.value ∙ event_end s at c.args.slot few;
      wrote = put_codes c.args.self.now.table c.mark_codes.new.self.table c.args.slot c.in-Ok.read.value.has (set_of (event_at s at)) (search rules) (search rules) c.mark_codes.ensures
          (event_low s at _ _ told.value told.codes) (event_high s at);
    }

pub returns-in-Err : goal.returns-in-Err
returns-in-Err c =
    let s = c.args.text.now in
    let at = c.args.at in
    let few : c.args.slot < 32 = grind (arith, nat_tests, c.in_ok-check_slot.ensures) in
    let told = c.in-Err.ensures in
    let none = event_none s at _ told.value in
    record { value = told.value ∙ event_end s at c.args.slot few; wrote = λ j l x. c.empty_slot.ensures j l x ∙ ap (λ here. cond (j == c.args.slot) here (held c.args.self.now.table j x)) (sym (none x)) }
