-- Where the text of a slot of codes ends.
use Rattle.std.specs.Prelude.{◌≡◌, ℕ, zero, suc, ◌+◌, ◌<◌, ◌≤◌, List, length, Ok, Err, refl}
use Rattle.std.proofs.Common.{ap, arith}
use Rattle.std.proofs.lemmas.Bool.Decides.{nat_tests}
use Rattle.text.specs.declared.mark.Mark.{Mark}
use Rattle.text.specs.declared.mark.Mark.TheVariants.{ClassOpen, ClassClose, BarredOpen, BarredClose, Colon, Space}
use Rattle.text.specs.declared.refusal.Layer.TheVariants.{Slot}
use Rattle.text.specs.declared.refusal.Refusal.TheVariants.{NoDigit}
use Rattle.text.specs.Numbers.{number_at}
use Rattle.text.specs.Marks.{is_mark, mark_taken}
use Rattle.text.proofs.Steps.{both, ok_same, ways}
use Rattle.text.proofs.Bounds.{number_within, number_past, mark_inside, mark_past, mark_within}
use Rattle.signature.specs.Slots.{Within, Past}
use Rattle.text.specs.declared.parsed.Parsed.{Parsed}
use Rattle.gauges.specs.declared.code_set.Member.{Member}
use Rattle.gauges.specs.Codes.{member_at, members_from, members_at, Listed, slot_at, event_at}

member_within : (s : List ℕ) (at : ℕ) (m : Parsed Member) → member_at s at ≡ Ok m → (at < m.end) × (m.end ≤ length s)
member_within s at m is =
    let (a, first, rest) = both (number_at 255 s at) _ m is in
    let n = number_within 255 s at a first in
    ways (is_mark Colon s a.end) _ _ _ rest
    (λ t f. let (b, second, last) = both (number_at 255 s (a.end + 1)) _ m f in let k = number_within 255 s (a.end + 1) b second in (grind (arith, nat_tests), grind (arith, nat_tests)))
    (λ t f. (grind (arith, nat_tests), grind (arith, nat_tests)))

members_within : (n : ℕ) (shut : Mark) (s : List ℕ) (at : ℕ) (ms : List Member) (e : ℕ) → members_from n shut s at ≡ Ok (ms, e) → (at < e) × (e ≤ length s)
members_within zero shut s at ms e is = absurd (let z : ◌≡◌ {A = ℕ} 0 1 = cc in omega arith)
members_within (suc n) shut s at ms e is =
    let (m, first, rest) = both (member_at s at) _ (ms, e) is in
    let b = member_within s at m first in
    ways (is_mark shut s m.end) _ _ _ rest
    (λ t f. let in' = mark_inside shut s m.end t in (grind (arith, nat_tests), grind (arith, nat_tests)))
    (λ t f.
    let (next, space, more) = both (mark_taken Slot Space s m.end) _ (ms, e) f in
    let k = mark_within Slot Space s m.end next space in
    let (r, last, out) = both (members_from n shut s next) _ (ms, e) more in
    let w = members_within n shut s next r.0 r.1 last in
    (grind (arith, nat_tests), grind (arith, nat_tests)))

slot_within : (s : List ℕ) (at : ℕ) (v : Listed) (e : ℕ) → slot_at s at ≡ Ok (v, e) → (at < e) × (e ≤ length s)
unfolding members_at
slot_within s at v e is =
    ways (is_mark ClassOpen s at) _ _ _ is
    (λ t f. let (ms, members, out) = both (members_at ClassClose s (at + 1)) _ (v, e) f in let w = members_within (suc (length s)) ClassClose s (at + 1) ms.0 ms.1 members in (grind (arith, nat_tests), grind (arith, nat_tests)))
    (λ t f. ways (is_mark BarredOpen s at) _ _ _ f
    (λ u g. let (ms, members, out) = both (members_at BarredClose s (at + 1)) _ (v, e) g in let w = members_within (suc (length s)) BarredClose s (at + 1) ms.0 ms.1 members in (grind (arith, nat_tests), grind (arith, nat_tests)))
    (λ u g. let (n, number, out) = both (number_at 255 s at) _ (v, e) g in let w = number_within 255 s at n number in (grind (arith, nat_tests), grind (arith, nat_tests))))

pub event_within : Within event_at
unfolding event_at
event_within s at v e is =
    let (l, slot, out) = both (slot_at s at) _ (v, e) is in
    let w = slot_within s at l.0 l.1 slot in
    let same : l.1 ≡ e = ap (λ p. p.1) (ok_same _ _ out) in
    (omega arith, omega arith)

slot_past : (s : List ℕ) (at : ℕ) → length s ≤ at → slot_at s at ≡ Err (NoDigit (length s))
slot_past s at l = rw (mark_past ClassOpen s at l, mark_past BarredOpen s at l, number_past 255 s at l) refl

pub event_past : Past event_at
unfolding event_at
event_past s at l = rw (slot_past s at l, slot_past s (length s) (omega arith)) refl
