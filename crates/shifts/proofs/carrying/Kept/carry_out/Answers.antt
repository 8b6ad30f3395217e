use Rattle.std.proofs.Common.{◌≡◌, ℕ, ◌-◌, List, ◌++◌, length, take, drop, refl, ◌∙◌, subst, arith}
use lib.Seq.{take-append-le}
use Rattle.std.proofs.lemmas.List.{take_all}
use Rattle.records.specs.States.{meaning}
use Rattle.shifts.specs.Carried.{made_of}
use Rattle.shifts.specs.Stands.{standing, answered, Obeys}
use Rattle.shifts.proofs.Lent.{carried_kept}
use Rattle.shifts.proofs.carrying.Kept.carry_out.Goals as goal

pub returns : goal.returns
returns g c =
    let M = meaning g.G.Gauge g.E.Engine in
    let m = made_of c.args.request.now in
    let rs = c.args.readings.now in
    let ws = c.args.sheet.now in
    let call = c.make_call-kept in
    let reply = call.result.1 in
    let list = call.new.list in
    let read : c.lent_entries-read.result - 0 ≡ c.lent_entries-read.result = omega arith in
    let marked : c.lent_entries-marked.result - 0 ≡ c.lent_entries-marked.result = omega arith in
    let obeys : Obeys M m.call m.list (standing c.args.self (take (c.lent_entries-read.result - 0) rs) (take (c.lent_entries-marked.result - 0) ws)) (answered reply list) (standing call.result.0 call.new.readings call.new.sheet) =
    subst (λ (l : List ℕ). Obeys M m.call l (standing c.args.self (take (c.lent_entries-read.result - 0) rs) (take (c.lent_entries-marked.result - 0) ws)) (answered reply list) (standing call.result.0 call.new.readings call.new.sheet))
    c.deref_mut.ensures.value call.ensures in
    let back : take c.args.request.now.list.len (list ++ drop (length list) c.args.request.now.list.items) ≡ list =
    take-append-le c.args.request.now.list.len list _ (omega (arith, call.auto.list, c.deref_mut.ensures.len)) ∙ take_all c.args.request.now.list.len list (omega (arith, call.auto.list, c.deref_mut.ensures.len)) in
    let done = carried_kept M m c.args.self call.result.0 rs call.new.readings ws call.new.sheet (answered reply list) _ _
    (read ∙ c.lent_entries-read.ensures) (marked ∙ c.lent_entries-marked.ensures) call.auto.readings call.auto.sheet obeys in
    (reply, record { call = refl; lent = refl; answer = refl }, rw back done)
