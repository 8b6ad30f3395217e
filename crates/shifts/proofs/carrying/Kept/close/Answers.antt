use Rattle.std.proofs.Common.{[], Ok, sym, refl, subst}
use Rattle.records.specs.declared.call.Call.TheVariants.{Close}
use Rattle.records.specs.declared.call.Reply.TheVariants.{Closed as Ended, NotTaken}
use Rattle.records.specs.States.{meaning, state, opened, closed}
use Rattle.shifts.specs.declared.carrying.Kept.{Kept}
use Rattle.shifts.specs.Stands.{answered}
use Rattle.shifts.specs.Replayed.{Ends}
use Rattle.shifts.proofs.Asking.{obeys_opened}
use Rattle.shifts.proofs.Ending.{carried_close, closed_already}
use Rattle.shifts.proofs.carrying.Kept.close.Goals as goal

pub returns-in-Open : goal.returns-in-Open
returns-in-Open g c =
    let M = meaning g.G.Gauge g.E.Engine in
    subst (λ (k : Kept _ _). Ends M k c.close.result) (sym c.in-Open.is) (λ rs ws.
    let s = state opened c.in-Open.open rs ws in
    let t = state closed c.close.result rs ws in
    let a = answered (Ok Ended) [] in
    (a, carried_close M s t a (obeys_opened M Close [] s t a refl (c.close.ensures.keeps rs ws []))))

pub returns-in-Closed : goal.returns-in-Closed
returns-in-Closed g c =
    let M = meaning g.G.Gauge g.E.Engine in
    subst (λ (k : Kept _ _). Ends M k c.in-Closed.closed) (sym c.in-Closed.is) (λ rs ws. (answered (Ok NotTaken) [], closed_already M c.in-Closed.closed rs ws))
