use Rattle.std.proofs.Common.{◌≡◌, ℕ, suc, ◌+◌, ◌-◌, ◌<◌, sym, refl, ap, arith}
use Rattle.std.proofs.lemmas.Result.{err_from_is_err_and}
use Rattle.signature.specs.Outcomes.{answer}
use Rattle.signature.proofs.Reading.{read_as, refused_as, begun, ended, refused_dash, refused_full, refused_join, refused_slot, turned, handed}
use Rattle.signature.proofs.reader.read_slots.Goals as goal

pub loop-at-init : goal.loop-at-init
loop-at-init g c =
    let s = c.args.text.now in
    let reads = g.G.WrittenGauge.reads in
    let at = c.in_ok-start.start in
    let e = c.in_ok-at.at in
    let told = c.in_ok-at.ensures in
    let v = read_as 0 at e (reads s at) (omega arith) told.value in
    begun reads s v.0 at e _ _ _ (sym c.in_ok-start.ensures) v.1 (g.met.G.WrittenGauge.within s at v.0 e v.1).1 refl c.requires.blank.1 c.requires.empty (rw v.1 at told.wrote)

pub returns-in_err-next : goal.returns-in_err-next
returns-in_err-next g c =
    let p = err_from_is_err_and c.from_residual-in_err-next.result c.from_residual-in_err-next.ensures.1 in
    let out = handed _ _ _ (refused_dash _ _ c.loop-at.invariant _ c.loop-at-test.true (sym c.in_err-next.ensures.value)) (rw (p.1, p.2) refl) in
    record { value = out.0; left = out.1 }

pub returns-then-slot-ge-MOST_SLOTS : goal.returns-then-slot-ge-MOST_SLOTS
returns-then-slot-ge-MOST_SLOTS g c =
    let out = handed _ _ _ (refused_full _ _ c.loop-at.invariant c.in_ok-next.next c.loop-at-test.true (sym c.in_ok-next.ensures.value) c.if-slot-ge-MOST_SLOTS.true) refl in
    record { value = out.0; left = out.1 }

-- the slots that may still follow the next one
more : (slots room : ℕ) → slots + room ≡ 32 → slots < 32 → (n : ℕ) × (room ≡ suc n)
more slots room all few = (room - 1, omega arith)

pub returns-in_err-join : goal.returns-in_err-join
returns-in_err-join g c =
    let h = c.loop-at.invariant in
    let n = more c.loop-at.signature.slots h.room h.slots c.if-slot-ge-MOST_SLOTS.false in
    let p = err_from_is_err_and c.from_residual-in_err-join.result c.from_residual-in_err-join.ensures.1 in
    let out = handed _ _ _ (refused_join _ _ h c.in_ok-next.next c.loop-at-test.true (sym c.in_ok-next.ensures.value) n.0 n.1 _ (sym c.in_err-join.ensures.value)) (rw (p.1, p.2) refl) in
    record { value = out.0; left = out.1 }

pub returns-in_err-at-2 : goal.returns-in_err-at-2
returns-in_err-at-2 g c =
    let h = c.loop-at.invariant in
    let n = more c.loop-at.signature.slots h.room h.slots c.if-slot-ge-MOST_SLOTS.false in
    let p = err_from_is_err_and c.from_residual-in_err-at-2.result c.from_residual-in_err-at-2.ensures.1 in
    let x = refused_as c.loop-at.signature.slots c.in_ok-join.join.end _ _ c.if-slot-ge-MOST_SLOTS.false c.in_err-at-2.ensures.value in
    let out = handed _ _ _ (refused_slot _ _ h c.in_ok-next.next c.loop-at-test.true (sym c.in_ok-next.ensures.value) n.0 n.1 c.in_ok-join.join _ (sym c.in_ok-join.ensures.value) x) (rw (p.1, p.2) refl) in
    record { value = out.0; left = out.1 }

pub loop-at-preserved : goal.loop-at-preserved
loop-at-preserved g c =
    let s = c.args.text.now in
    let reads = g.G.WrittenGauge.reads in
    let h = c.loop-at.invariant in
    let n = more c.loop-at.signature.slots h.room h.slots c.if-slot-ge-MOST_SLOTS.false in
    let j = c.in_ok-join.join in
    let told = c.in_ok-at-2.ensures in
    let e = c.in_ok-at-2.at in
    let v = read_as c.loop-at.signature.slots j.end e (reads s j.end) c.if-slot-ge-MOST_SLOTS.false told.value in
    turned reads s h c.in_ok-next.next c.loop-at-test.true (sym c.in_ok-next.ensures.value) n.0 n.1 j v.0 e
    (sym c.in_ok-join.ensures.value) v.1 _ _ (g.met.G.WrittenGauge.within s j.end v.0 e v.1).1
    (rw v.1 at told.wrote) c.add_slot.ensures.slots c.add_slot.ensures.gaps c.add_slot.ensures.past

pub returns : goal.returns
returns g c = let out = ended _ _ c.loop-at.invariant c.loop-at-test.false in record { value = sym (ap (λ o. answer o) out.0); left = λ _. out.1 }
