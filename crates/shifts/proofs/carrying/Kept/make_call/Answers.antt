use Rattle.std.proofs.Common.{Ok, sym, refl, subst}
use Rattle.records.specs.declared.call.Reply.TheVariants.{Closed as Ended}
use Rattle.records.specs.States.{meaning, state, opened, closed}
use Rattle.shifts.specs.declared.carrying.Kept.{Kept}
use Rattle.shifts.specs.Stands.{standing, answered, Obeys}
use Rattle.shifts.proofs.Asking.{keeps_of, obeys_closed, obeys_opened}
use Rattle.shifts.proofs.carrying.Kept.make_call.Goals as goal

pub returns-in-Close : goal.returns-in-Close
returns-in-Close g c =
    let M = meaning g.G.Gauge g.E.Engine in
    let list = c.args.list.now in
    let s = state opened c.in-Open.open c.args.readings.now c.args.sheet.now in
    let t = state closed c.close.result c.args.readings.now c.args.sheet.now in
    let a = answered (Ok Ended) list in
    let keeps = keeps_of M c.args.call.now _ list s t a c.in-Close.is (c.close.ensures.keeps c.args.readings.now c.args.sheet.now list) in
    subst (λ (k : Kept _ _). Obeys M c.args.call.now list (standing k c.args.readings.now c.args.sheet.now) a t) (sym c.in-Open.is) (obeys_opened M c.args.call.now list s t a refl keeps)

pub returns-in-Closed : goal.returns-in-Closed
returns-in-Closed g c =
    let M = meaning g.G.Gauge g.E.Engine in
    let rs = c.args.readings.now in
    let ws = c.args.sheet.now in
    let a = answered c.ask-reply.result c.ask-reply.new.list in
    subst (λ (k : Kept _ _). Obeys M c.args.call.now c.args.list.now (standing k rs ws) a (state closed c.in-Closed.closed rs ws)) (sym c.in-Closed.is)
    (obeys_closed M c.args.call.now c.args.list.now c.in-Closed.closed rs ws a c.ask-reply.ensures)
