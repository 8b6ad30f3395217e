-- Where a slot of event codes is refused, the bytes before the refusal's place begin some slot.
use Rattle.std.proofs.Common.{◌≡◌, ℕ, zero, suc, ◌+◌, ◌<◌, ◌≤◌, Bool, true, false, leb, ◌⊎◌, List, [], ◌∷◌, ◌++◌, length, get_or, take, Err, sym, refl, ap, subst, inl, inr, arith}
use Rattle.text.specs.declared.mark.Mark.{Mark}
use Rattle.text.specs.declared.mark.Mark.TheVariants.{Gap as Cross, ClassOpen, ClassClose, BarredOpen, BarredClose, Colon, Space}
use Rattle.text.specs.declared.refusal.Layer.TheVariants.{Slot}
use Rattle.text.specs.declared.refusal.Refusal.{Refusal}
use Rattle.text.specs.Refusals.{place_of}
use Rattle.text.specs.Words.{is_digit}
use Rattle.text.specs.Numbers.{number_at}
use Rattle.text.specs.Marks.{is_mark, mark_taken}
use Rattle.text.specs.Grammar.{MarkText}
use Rattle.text.specs.Places.{Begins}
use Rattle.text.proofs.Steps.{err_same, no_refusal, faults, ways}
use Rattle.text.proofs.Bounds.{mark_within, mark_inside}
use Rattle.text.proofs.Derived.{mark_sound, number_sound, digit_no_mark, one_mark}
use Rattle.text.proofs.Begins.{Part, Fills, Stops, MarkThen, NumberThen, Ended, as_part, mark_moved, number_moved, mark_stops, mark_then_stops, ended_stops, front, fill_as, fill_end, fill_mark, fill_number, here, mark_place, number_place, mark_begins, number_begins}
use Rattle.signature.specs.Refused.{SomeSlot, GoesOn, BeginsSome}
use Rattle.signature.proofs.Begins.{begins_some}
use Rattle.gauges.specs.Codes.{member_at, covers, members_from, members_at, slot_at, event_at}
use Rattle.gauges.specs.Grammar.{range, MemberText, lone, pair, MembersText, last, more, EventText, code, listed, barred}
use Rattle.gauges.specs.Ends.{event_within}
use Rattle.gauges.proofs.Derived.{number_inside, member_inside, member_sound, event_exactly}

members_on : (shut : Mark) (s : List ℕ) (a b : ℕ) (f : ℕ → Bool) → MembersText shut s a b f → a ≤ b
members_on shut s a b f (last {b = c} member close) =
    let w = member_inside s a c f member in
    let o = close.behind in
    omega arith
members_on shut s a b _ (more {b = c} {c = d} {f = f} {g = g} member space rest) =
    let w = member_inside s a c f member in
    let o = space.behind in
    let on = members_on shut s d b g rest in
    omega arith

-- what stands in a text stands in one that has the same bytes

module _ (s t : List ℕ) (e : ℕ) (same : take e t ≡ take e s) where
  member_moved : (a b : ℕ) (f : ℕ → Bool) → b ≤ e → is_digit (get_or t b 0) ≡ false → MemberText s a b f → MemberText t a b f
  member_moved a b _ l stop (lone {v = v} number small) = lone (number_moved s t e same a b v l stop number) small
  member_moved a d _ l stop (pair {b = b} {c = c} {v = v} {w = w} number colon number' le small) =
      let o = colon.behind in
      let some = number'.some in
      let colon' = mark_moved s t e same Colon b c (omega arith) colon in
      pair (number_moved s t e same a b v (omega arith) (mark_stops Colon t b colon'.stands) number) colon' (number_moved s t e same c d w l stop number') le small

  members_moved : (shut : Mark) (a b : ℕ) (f : ℕ → Bool) → b ≤ e → MembersText shut s a b f → MembersText shut t a b f
  members_moved shut a b f l (last {b = c} member close) =
      let o = close.behind in
      let close' = mark_moved s t e same shut c b l close in
      last (member_moved a c f (omega arith) (mark_stops shut t c close'.stands) member) close'
  members_moved shut a b _ l (more {b = c} {c = d} {f = f} {g = g} member space rest) =
      let o = space.behind in
      let on = members_on shut s d b g rest in
      let space' = mark_moved s t e same Space c d (omega arith) space in
      more (member_moved a c f (omega arith) (mark_stops Space t c space'.stands) member) space' (members_moved shut d b g l rest)

  event_moved : (a b : ℕ) (f : ℕ → Bool) → b ≤ e → is_digit (get_or t b 0) ≡ false → EventText s a b f → EventText t a b f
  event_moved a b _ l stop (code {v = v} number small) = code (number_moved s t e same a b v l stop number) small
  event_moved a b f l stop (listed {b = c} begin members) =
      let on = members_on ClassClose s c b f members in
      listed (mark_moved s t e same ClassOpen a c (omega arith) begin) (members_moved ClassClose c b f l members)
  event_moved a b _ l stop (barred {b = c} {f = f} begin members) =
      let on = members_on BarredClose s c b f members in
      barred (mark_moved s t e same BarredOpen a c (omega arith) begin) (members_moved BarredClose c b f l members)

-- no slot of codes begins with an `x`
event_starts : (s : List ℕ) (a b : ℕ) (f : ℕ → Bool) → EventText s a b f → is_mark Cross s a ≡ false
event_starts s a b _ (code number small) = digit_no_mark Cross s a (number.digits a (omega arith) number.some)
event_starts s a b f (listed begin members) = one_mark ClassOpen Cross s a refl begin.stands
event_starts s a b _ (barred begin members) = one_mark BarredOpen Cross s a refl begin.stands

-- some code in digits

one_digit : (k : ℕ) → k < 1 → is_digit (get_or (48 ∷ []) k 0) ≡ true
one_digit zero l = refl
one_digit (suc k) l = absurd (omega arith)

three_digits : (k : ℕ) → k < 3 → is_digit (get_or (50 ∷ 53 ∷ 53 ∷ []) k 0) ≡ true
three_digits zero l = refl
three_digits (suc zero) l = refl
three_digits (suc (suc zero)) l = refl
three_digits (suc (suc (suc k))) l = absurd (omega arith)

-- a member, and then a part
module _ (T : Part) (fills : Fills T) (stops : Stops T) where
  abbrev MemberThen : Part
  MemberThen t a e = (b : ℕ) × (f : ℕ → Bool) × MemberText t a b f × T t b e

  abbrev Second : ℕ → Part
  Second v = NumberThen (λ w. (v ≤ w) × (w ≤ 255)) (λ w. T)

  abbrev First : Part
  First = NumberThen (λ v. v ≤ 255) (λ v. MarkThen Colon (Second v))

  abbrev Only : Part
  Only = NumberThen (λ v. v ≤ 255) (λ v. T)

  fill_second : (v : ℕ) → v ≤ 255 → Fills (Second v)
  fill_second v l = fill_number (λ w. (v ≤ w) × (w ≤ 255)) (λ w. T) (50 ∷ 53 ∷ 53 ∷ []) (omega arith) three_digits (l, omega arith) stops fills

  fill_member : Fills MemberThen
  fill_member = fill_as Only MemberThen (λ t a (v, b, number, small, rest). (b, range v v, lone number small, rest)) (fill_number (λ v. v ≤ 255) (λ v. T) (48 ∷ []) (omega arith) one_digit (omega arith) stops fills)

  module _ (s : List ℕ) (x : Refusal) where
    member_fault : (a : ℕ) → a ≤ length s → member_at s a ≡ Err x → Begins MemberThen s a x
    member_fault a in' is =
        faults (number_at 255 s a) _ x is
        (λ f. here MemberThen s a x in' (number_place 255 s a x in' f) fill_member)
        (λ v ok is1.
        let (number, small) = number_sound s a 255 v ok in
        ways (is_mark Colon s v.end) _ _ (Err x) is1
        (λ t is2.
        let colon : MarkText Colon s v.end (v.end + 1) = record { stands = t; behind = refl } in
        let w = mark_inside Colon s v.end t in
        let in'' : v.end + 1 ≤ length s = omega arith in
        faults (number_at 255 s (v.end + 1)) _ x is2
        (λ f. as_part First MemberThen s a x (λ t (v, b, number, few, (c, colon, (w, d, number', (le, small), rest))). (d, range v w, pair number colon number' le small, rest))
        (number_begins (λ v. v ≤ 255) (λ v. MarkThen Colon (Second v)) s a v.end v.value x number small (mark_then_stops Colon (Second v.value))
        (mark_begins Colon (Second v.value) s v.end (v.end + 1) x colon (here (Second v.value) s (v.end + 1) x in'' (number_place 255 s (v.end + 1) x in'' f) (fill_second v.value small)))))
        (λ w ok3 is3.
        ways (leb v.value w.value) _ _ (Err x) is3
        (λ u f. absurd (no_refusal _ x f))
        (λ u f. here MemberThen s a x in' (ap place_of (sym (err_same _ x f))) fill_member)))
        (λ t f. absurd (no_refusal _ x f)))

    member_begins : (a b : ℕ) (f : ℕ → Bool) → MemberText s a b f → Begins T s b x → Begins MemberThen s a x
    member_begins a b f member (on, in', (r, rest)) =
        let w = member_inside s a b f member in
        (omega arith, in', (r, (b, f, member_moved s (take (place_of x) s ++ r) b (front s r (place_of x) b on in') a b f (omega arith) (stops _ _ _ rest) member, rest)))

module _ (shut : Mark) where
  abbrev Members : Part
  Members t a e = (f : ℕ → Bool) × MembersText shut t a e f

  -- what follows a member: the closing mark, or a space and more members
  abbrev Tail : Part
  Tail t a e = MarkText shut t a e ⊎ MarkThen Space Members t a e

  tail_stops : Stops Tail
  tail_stops t a e (inl close) = mark_stops shut t a close.stands
  tail_stops t a e (inr (b, space, rest)) = mark_stops Space t a space.stands

  fill_tail : Fills Tail
  fill_tail = fill_as (MarkThen shut Ended) Tail (λ t a (b, close, is). inl (subst (MarkText shut t a) is.0 close)) (fill_mark shut Ended fill_end)

  as_members : (t : List ℕ) (a : ℕ) → MemberThen Tail fill_tail tail_stops t a (length t) → Members t a (length t)
  as_members t a (b, f, member, inl close) = (f, last member close)
  as_members t a (b, f, member, inr (c, space, (g, rest))) = (_, more member space rest)

  members_fault : (s : List ℕ) (x : Refusal) (n a : ℕ) → a ≤ length s → length s < a + n → members_from n shut s a ≡ Err x → Begins Members s a x
  members_fault s x zero a in' room is = absurd (omega arith)
  members_fault s x (suc n) a in' room is =
      as_part (MemberThen Tail fill_tail tail_stops) Members s a x (λ t text. as_members t a text) (
      faults (member_at s a) _ x is
      (λ f. member_fault Tail fill_tail tail_stops s x a in' f)
      (λ m ok is1.
      let member = member_sound s a m ok in
      let w = member_inside s a m.end (covers m.value) member in
      let far = member_far s a m.end (covers m.value) member in
      member_begins Tail fill_tail tail_stops s x a m.end (covers m.value) member
      (ways (is_mark shut s m.end) _ _ (Err x) is1
      (λ t f. absurd (no_refusal _ x f))
      (λ t is2. faults (mark_taken Slot Space s m.end) _ x is2
      (λ f. here Tail s m.end x far (mark_place Slot Space s m.end x far f) fill_tail)
      (λ e space is3.
      let o = mark_within Slot Space s m.end e space in
      faults (members_from n shut s e) _ x is3
      (λ f. as_part (MarkThen Space Members) Tail s m.end x (λ t text. inr text) (mark_begins Space Members s m.end e x (mark_sound s m.end Slot Space e space) (members_fault s x n e o.1 (omega arith) f)))
      (λ r ok4 f. absurd (no_refusal _ x f)))))))
    where
      member_far : (s : List ℕ) (a b : ℕ) (f : ℕ → Bool) → MemberText s a b f → b ≤ length s
      member_far s a b _ (lone {v = v} number small) = (number_inside s a b v number).1
      member_far s a d _ (pair {c = c} {w = w} number colon number' le small) = (number_inside s c d w number').1

abbrev Event : Part
Event t a e = (f : ℕ → Bool) × EventText t a e f

fill_event : Fills Event
fill_event = fill_as (NumberThen (λ v. v ≤ 255) (λ v. Ended)) Event (λ t a (v, b, number, small, is). (range v v, subst (λ e. EventText t a e (range v v)) is.0 (code number small))) (fill_number (λ v. v ≤ 255) (λ v. Ended) (48 ∷ []) (omega arith) one_digit (omega arith) ended_stops fill_end)

slot_fault : (s : List ℕ) (a : ℕ) (x : Refusal) → a ≤ length s → slot_at s a ≡ Err x → Begins Event s a x
unfolding members_at
slot_fault s a x in' is =
    ways (is_mark ClassOpen s a) _ _ (Err x) is
    (λ t is1.
    let w = mark_inside ClassOpen s a t in
    faults (members_at ClassClose s (a + 1)) _ x is1
    (λ f. as_part (MarkThen ClassOpen (Members ClassClose)) Event s a x (λ u (b, begin, (f, members)). (f, listed begin members))
    (mark_begins ClassOpen (Members ClassClose) s a (a + 1) x (record { stands = t; behind = refl }) (members_fault ClassClose s x (suc (length s)) (a + 1) (omega arith) (omega arith) f)))
    (λ r ok f. absurd (no_refusal _ x f)))
    (λ t is1. ways (is_mark BarredOpen s a) _ _ (Err x) is1
    (λ u is2.
    let w = mark_inside BarredOpen s a u in
    faults (members_at BarredClose s (a + 1)) _ x is2
    (λ f. as_part (MarkThen BarredOpen (Members BarredClose)) Event s a x (λ u (b, begin, (f, members)). (_, barred begin members))
    (mark_begins BarredOpen (Members BarredClose) s a (a + 1) x (record { stands = u; behind = refl }) (members_fault BarredClose s x (suc (length s)) (a + 1) (omega arith) (omega arith) f)))
    (λ r ok f. absurd (no_refusal _ x f)))
    (λ u is2. faults (number_at 255 s a) _ x is2
    (λ f. here Event s a x in' (number_place 255 s a x in' f) fill_event)
    (λ n ok f. absurd (no_refusal _ x f))))

as_slot : (t : List ℕ) (a e : ℕ) → Event t a e → SomeSlot event_at t a e
as_slot t a e (f, text) = (f, record { begins = event_starts t a e f text; slot = (event_exactly t a e f).1 text })

event_fault : (s : List ℕ) (a : ℕ) (x : Refusal) → a ≤ length s → event_at s a ≡ Err x → Begins Event s a x
unfolding event_at
event_fault s a x in' is = faults (slot_at s a) _ x is (λ f. slot_fault s a x in' f) (λ v ok f. absurd (no_refusal _ x f))

pub event_goes_on : GoesOn event_at
unfolding as_slot
event_goes_on = record {
  some = fill_as Event (SomeSlot event_at) (λ t a text. as_slot t a (length t) text) fill_event;
  stays = λ s t a b set slot same stop. (as_slot t a b (set, event_moved s t b same a b set (omega arith) stop ((event_exactly s a b set).0 slot.slot))).1;
  begins = λ s a x in' free is. as_part Event (SomeSlot event_at) s a x (λ t text. as_slot t a (length t) text) (event_fault s a x in' is);
}

pub event_begins : (s : List ℕ) → BeginsSome event_at s
event_begins s = begins_some event_at event_goes_on event_within s
