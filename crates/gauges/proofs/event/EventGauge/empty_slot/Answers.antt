use Rattle.std.proofs.Common.{[], refl, arith}
use Rattle.gauges.specs.TablesLemmas.{emptied_codes}
use Rattle.gauges.proofs.event.EventGauge.empty_slot.Goals as goal

pub returns-after-loop-entry : goal.returns-after-loop-entry
returns-after-loop-entry c =
    let inv = c.loop-entry.invariant in
    emptied_codes c.args.self.now.table c.loop-entry.entry-items c.args.slot [] c.args.self.now.long inv.0 (λ k l. inv.1 k (omega (arith, c.loop-entry-test.false))) (λ k. refl)
