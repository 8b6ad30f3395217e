use Rattle.std.proofs.Common.{◌≡◌, ◌-◌, ◌<◌, ◌≢◌, length, Ok, refl, ap, ◌∙◌, arith, length-set, get_or-set_other}
use Rattle.std.proofs.lemmas.Bool.Decides.{nat_tests}
use Rattle.runs.specs.Signatures.{gaps_of}
use Rattle.search.specs.Traces.{sheet_marks, trace_of, tracing, places_from}
use Rattle.search.proofs.Latest.{latest_or}
use Rattle.search.proofs.Filled.{filled}
use Rattle.search.proofs.Back.{written_end, written_more, written_within, trace_size}
use Rattle.search.proofs.tracing.trace.Goals as goal
use Rattle.search.proofs.tracing.trace.Goals.{Else-places-slots}

-- where a hit ends there is a slot
some : (c : goal.Else-places-slots) → 0 < c.args.signature.now.slots
some c = let hit = c.if-not-is_hit.ensures in grind (arith, nat_tests)

pub loop-slot-init : goal.loop-slot-init
loop-slot-init c = (written_end c.args.signature.now c.args.sheet.now c.args.end (some c) c.args.places.now c.if-places-slots.false, λ k l. refl)

pub latest-requires-clause-place : goal.latest-requires-clause-place
latest-requires-clause-place c =
    let m = some (goal.at.latest-requires-clause-place c).Else-places-slots in
    omega (arith, written_within c.args.signature.now c.args.sheet.now c.args.end m c.loop-slot.slot c.loop-slot.places c.loop-slot-test.true (omega arith) c.loop-slot.invariant.0)

pub loop-slot-preserved : goal.loop-slot-preserved
loop-slot-preserved c =
    let m = some (goal.at.loop-slot-preserved c).Else-places-slots in
    let size = length-set c.args.places.now (c.args.signature.now.slots - 1) c.args.end in
    let is = c.unwrap_or.ensures ∙ latest_or (gaps_of c.args.signature.now) (sheet_marks c.args.sheet.now) _ _ c.latest.result c.latest.ensures in (
      written_more c.args.signature.now c.args.sheet.now c.args.end m c.loop-slot.slot c.unwrap_or.result c.loop-slot.places c.loop-slot-test.true (omega arith) (omega arith) c.loop-slot.invariant.0 is,
      λ k l. let ne : k ≢ c.loop-slot.slot - 1 = omega arith in get_or-set_other c.loop-slot.places (c.loop-slot.slot - 1) k c.unwrap_or.result 0 ne ∙ c.loop-slot.invariant.1 k l,
    )

pub returns-clause-places : goal.returns-clause-places
returns-clause-places c =
    let s = c.args.signature.now in
    let sheet = c.args.sheet.now in
    let end = c.args.end in
    let old = c.args.places.now in
    let m = some (goal.at.returns-clause-places c).Else-places-slots in
    let hit = c.if-not-is_hit.ensures in
    let size = length-set old (s.slots - 1) end in
    let is : Ok tt ≡ tracing s sheet end (length old) = grind (arith, nat_tests) in
    let full = filled (trace_of s sheet end) old c.loop-slot.places s.slots (trace_size s sheet end m) c.if-places-slots.false (omega arith)
    (λ k l. c.loop-slot.invariant.0 k (omega arith) l)
    (λ k l. let ne : k ≢ s.slots - 1 = omega arith in c.loop-slot.invariant.1 k l ∙ get_or-set_other old (s.slots - 1) k end 0 ne) in
    full ∙ ap (places_from s sheet end old) is
