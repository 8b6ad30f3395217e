-- A slot of event codes is read just where the grammar derives it.
use Rattle.std.proofs.Common.{◌≡◌, ℕ, zero, suc, ◌+◌, ◌<◌, ◌≤◌, Bool, true, false, not, ◌&&◌, ◌||◌, eqb, ltb, leb, List, [], ◌∷◌, length, get_or, IfOk, Ok, Result, sym, refl, ap, ◌∙◌, subst, arith}
use Rattle.std.proofs.lemmas.Bool.Decides.{nat_tests}
use Rattle.std.proofs.lemmas.Result.{IfOk-weaker}
use Rattle.text.specs.declared.mark.Mark.{Mark}
use Rattle.text.specs.declared.mark.Mark.TheVariants.{ClassOpen, ClassClose, BarredOpen, BarredClose, Colon, Space}
use Rattle.text.specs.declared.refusal.Layer.TheVariants.{Slot}
use Rattle.text.specs.declared.refusal.Refusal.{Refusal}
use Rattle.text.specs.Numbers.{number_at}
use Rattle.text.specs.Marks.{code_of, is_mark, mark_taken}
use Rattle.text.specs.Grammar.{NumberText}
use Rattle.text.proofs.Steps.{ok_same, both, ways}
use Rattle.text.proofs.Bounds.{number_within}
use Rattle.text.proofs.Derived.{mark_sound, mark_complete, number_sound, number_complete, digit_no_mark, one_mark}
use Rattle.text.specs.declared.parsed.Parsed.{Parsed}
use Rattle.gauges.specs.declared.code_set.Member.{Member}
use Rattle.gauges.specs.declared.code_set.Codes.{Codes}
use Rattle.gauges.specs.Codes.{member_at, covers, covers_any, members_from, members_at, Listed, holds, slot_at, event_at, behind, ended}
use Rattle.gauges.specs.Grammar.{range, MemberText, lone, pair, MembersText, last, more, EventText, code, listed, barred, EventExactly, ReadsSlot}

abbrev Sets : Type 0
Sets = ℕ → Bool

-- what is read is derived

pub member_sound : (s : List ℕ) (a : ℕ) (m : Parsed Member) → member_at s a ≡ Ok m → MemberText s a m.end (covers m.value)
member_sound s a m is =
    let (v, first, is1) = both (number_at 255 s a) _ m is in
    let (number, small) = number_sound s a 255 v first in
    ways (is_mark Colon s v.end) _ _ (Ok m) is1
    (λ t is2.
    let (w, second, is3) = both (number_at 255 s (v.end + 1)) _ m is2 in
    let (number', small') = number_sound s (v.end + 1) 255 w second in
    ways (leb v.value w.value) _ _ (Ok m) is3
    (λ u out.
    let le : v.value ≤ w.value = grind (arith, nat_tests) in
    subst (λ (m : Parsed Member). MemberText s a m.end (covers m.value)) (ok_same _ _ out) (pair number (record { stands = t; behind = refl }) number' le small'))
    (λ u f. absurd (let z : ◌≡◌ {A = ℕ} 0 1 = cc in omega arith)))
    (λ t out. subst (λ (m : Parsed Member). MemberText s a m.end (covers m.value)) (ok_same _ _ out) (lone number small))

or_none : (b : Bool) → b ≡ (b || false)
or_none true = refl
or_none false = refl

members_sound : (n : ℕ) (shut : Mark) (s : List ℕ) (a : ℕ) (ms : List Member × ℕ) → members_from n shut s a ≡ Ok ms → MembersText shut s a ms.1 (covers_any ms.0)
members_sound zero shut s a ms is = absurd (let z : ◌≡◌ {A = ℕ} 0 1 = cc in omega arith)
members_sound (suc n) shut s a ms is =
    let (m, first, is1) = both (member_at s a) _ ms is in
    let member = member_sound s a m first in
    ways (is_mark shut s m.end) _ _ (Ok ms) is1
    (λ t out.
    let one : covers m.value ≡ covers_any (m.value ∷ []) = λ i c. or_none (covers m.value c) i in
    subst (λ ms. MembersText shut s a ms.1 (covers_any ms.0)) (ok_same _ _ out)
    (subst (MembersText shut s a (m.end + 1)) one (last member (record { stands = t; behind = refl }))))
    (λ t is2.
    let (b, space, is3) = both (mark_taken Slot Space s m.end) _ ms is2 in
    let (rest, onward, out) = both (members_from n shut s b) _ ms is3 in
    subst (λ ms. MembersText shut s a ms.1 (covers_any ms.0)) (ok_same _ _ out)
    (more member (mark_sound s m.end Slot Space b space) (members_sound n shut s b rest onward)))

-- all that is listed is a code
below_or : (t f g : Bool) → f ≡ (t && f) → g ≡ (t && g) → (f || g) ≡ (t && (f || g))
below_or true f g p q = refl
below_or false f g p q = rw (p, q) refl

member_below : (s : List ℕ) (a b : ℕ) (f : Sets) → MemberText s a b f → (c : ℕ) → f c ≡ (ltb c 256 && f c)
member_below s a b _ (lone number small) c = grind (arith, nat_tests)
member_below s a b _ (pair number colon number' le small) c = grind (arith, nat_tests)

members_below : (shut : Mark) (s : List ℕ) (a b : ℕ) (f : Sets) → MembersText shut s a b f → (c : ℕ) → f c ≡ (ltb c 256 && f c)
members_below shut s a b f (last {b = e} member end) c = member_below s a e f member c
members_below shut s a b _ (more {b = d} {c = e} {f = f} {g = g} member space rest) c = below_or (ltb c 256) (f c) (g c) (member_below s a d f member c) (members_below shut s e b g rest c)

abbrev events_of : Listed × ℕ → Sets × ℕ
events_of v = ((λ c. ltb c 256 && holds v.0 c), v.1)

slot_sound : (s : List ℕ) (a : ℕ) (v : Listed × ℕ) → slot_at s a ≡ Ok v → EventText s a v.1 (events_of v).0
unfolding members_at
slot_sound s a v is =
    ways (is_mark ClassOpen s a) _ _ (Ok v) is
    (λ t is1.
    let (ms, members, out) = both (members_at ClassClose s (a + 1)) _ v is1 in
    let text = members_sound (suc (length s)) ClassClose s (a + 1) ms members in
    let same : covers_any ms.0 ≡ (λ c. ltb c 256 && covers_any ms.0 c) = λ i c. members_below ClassClose s (a + 1) ms.1 _ text c i in
    subst (λ v. EventText s a v.1 (events_of v).0) (ok_same _ _ out) (subst (EventText s a ms.1) same (listed (record { stands = t; behind = refl }) text)))
    (λ t is1. ways (is_mark BarredOpen s a) _ _ (Ok v) is1
    (λ u is2.
    let (ms, members, out) = both (members_at BarredClose s (a + 1)) _ v is2 in
    let text = members_sound (suc (length s)) BarredClose s (a + 1) ms members in
    subst (λ v. EventText s a v.1 (events_of v).0) (ok_same _ _ out) (barred (record { stands = u; behind = refl }) text))
    (λ u is2.
    let (n, number, out) = both (number_at 255 s a) _ v is2 in
    let (text, small) = number_sound s a 255 n number in
    let same : range n.value n.value ≡ (λ c. ltb c 256 && (range n.value n.value c || false)) = λ i c. alone n.value c small i in
    subst (λ v. EventText s a v.1 (events_of v).0) (ok_same _ _ out) (subst (EventText s a n.end) same (code text small))))
  where
    alone : (v c : ℕ) → v ≤ 255 → range v v c ≡ (ltb c 256 && (range v v c || false))
    alone v c small = grind (arith, nat_tests)

-- what is derived is read

abbrev Read : List ℕ → ℕ → ℕ → Sets → Type 0
Read s a b f = (m : Parsed Member) × (member_at s a ≡ Ok m) × (m.end ≡ b) × ((c : ℕ) → covers m.value c ≡ f c)

member_complete : (s : List ℕ) (a b : ℕ) (f : Sets) → is_mark Colon s b ≡ false → MemberText s a b f → Read s a b f
member_complete s a b _ free (lone {v = v} number small) =
    (record { value = record { low = v; high = v }; end = b }, rw (number_complete s a 255 b v number small, free) refl, refl, λ c. refl)
member_complete s a d _ free (pair {b = b} {c = c} {v = v} {w = w} number colon number' le small) =
    let t : leb v w ≡ true = grind (arith, nat_tests) in
    let second : number_at 255 s (b + 1) ≡ Ok (record { value = w; end = d }) = number_complete s (b + 1) 255 d w (subst (λ i. NumberText s i d w) colon.behind number') small in
    (record { value = record { low = v; high = w }; end = d }, rw (number_complete s a 255 b v number (omega arith), colon.stands, second, t) refl, refl, λ c. refl)

pub number_inside : (s : List ℕ) (a b v : ℕ) → NumberText s a b v → (a < b) × (b ≤ length s)
number_inside s a b v t = number_within v s a (record { value = v; end = b }) (number_complete s a v b v t (omega arith))

pub member_inside : (s : List ℕ) (a b : ℕ) (f : Sets) → MemberText s a b f → (a < b) × (a < length s)
member_inside s a b _ (lone {v = v} number small) = let l = number_inside s a b v number in (l.0, omega arith)
member_inside s a d _ (pair {b = b} {c = c} {v = v} {w = w} number colon number' le small) =
    let l = number_inside s a b v number in
    let r = number_inside s c d w number' in
    let o = colon.behind in
    (omega arith, omega arith)

-- a closing mark is neither the `:` nor the space
abbrev Closes : Mark → Type 0
Closes shut = (eqb (code_of shut) (code_of Colon) ≡ false) × (eqb (code_of Space) (code_of shut) ≡ false)

members_complete : (n : ℕ) (shut : Mark) (s : List ℕ) (a b : ℕ) (f : Sets) → Closes shut → length s < a + n → MembersText shut s a b f
    → (ms : List Member) × (members_from n shut s a ≡ Ok (ms, b)) × ((c : ℕ) → covers_any ms c ≡ f c)
members_complete zero shut s a b f closes room (last {b = e} member end) = absurd (let l = member_inside s a e f member in omega arith)
members_complete zero shut s a b _ closes room (more {b = d} {f = f} member space rest) = absurd (let l = member_inside s a d f member in omega arith)
members_complete (suc n) shut s a b f closes room (last {b = e} member end) =
    let (m, is, far, sets) = member_complete s a e f (one_mark shut Colon s e closes.0 end.stands) member in
    let t : is_mark shut s m.end ≡ true = ap (is_mark shut s) far ∙ end.stands in
    let at : m.end + 1 ≡ b = ap (λ i. i + 1) far ∙ sym end.behind in
    (m.value ∷ [], rw (is, t, at) refl, λ c. sym (or_none (covers m.value c)) ∙ sets c)
members_complete (suc n) shut s a b _ closes room (more {b = d} {c = e} {f = f} {g = g} member space rest) =
    let (m, is, far, sets) = member_complete s a d f (one_mark Space Colon s d refl space.stands) member in
    let l = member_inside s a d f member in
    let o = space.behind in
    let (ms, onward, more-sets) = members_complete n shut s e b g closes (omega arith) rest in
    let t : is_mark shut s m.end ≡ false = ap (is_mark shut s) far ∙ one_mark Space shut s d closes.1 space.stands in
    let u : mark_taken Slot Space s m.end ≡ Ok e = ap (mark_taken Slot Space s) far ∙ mark_complete s d Slot Space e space in
    (m.value ∷ ms, rw (is, t, u, onward) refl, λ c. rw (sets c, more-sets c) refl)

slot_complete : (s : List ℕ) (a b : ℕ) (f : Sets) → EventText s a b f → (l : Listed) × (slot_at s a ≡ Ok (l, b)) × ((c : ℕ) → (ltb c 256 && holds l c) ≡ f c)
unfolding members_at
slot_complete s a b _ (code {v = v} number small) =
    let digit = number.digits a (omega arith) number.some in (
      record { members = record { low = v; high = v } ∷ []; barred = false },
      rw (digit_no_mark ClassOpen s a digit, digit_no_mark BarredOpen s a digit, number_complete s a 255 b v number small) refl,
      λ c. grind (arith, nat_tests),
    )
slot_complete s a b f (listed {b = e} begin members) =
    let o = begin.behind in
    let (ms, is, sets) = members_complete (suc (length s)) ClassClose s e b f (refl, refl) (omega arith) members in
    let here : members_from (suc (length s)) ClassClose s (a + 1) ≡ Ok (ms, b) = ap (members_from (suc (length s)) ClassClose s) (sym o) ∙ is in
    (record { members = ms; barred = false }, rw (begin.stands, here) refl, λ c. ap (λ t. ltb c 256 && t) (sets c) ∙ sym (members_below ClassClose s e b f members c))
slot_complete s a b _ (barred {b = e} {f = f} begin members) =
    let o = begin.behind in
    let (ms, is, sets) = members_complete (suc (length s)) BarredClose s e b f (refl, refl) (omega arith) members in
    let here : members_from (suc (length s)) BarredClose s (a + 1) ≡ Ok (ms, b) = ap (members_from (suc (length s)) BarredClose s) (sym o) ∙ is in
    (record { members = ms; barred = true }, rw (one_mark BarredOpen ClassOpen s a refl begin.stands, begin.stands, here) refl, λ c. ap (λ t. ltb c 256 && not t) (sets c))

pub event_exactly : EventExactly
unfolding event_at
event_exactly s a b f = (
  (λ is.
      let (v, slot, out) = both (slot_at s a) _ (f, b) is in
      subst (λ (w : Sets × ℕ). EventText s a w.1 w.0) (ok_same _ _ out) (slot_sound s a v slot)),
  (λ text.
      let (l, slot, sets) = slot_complete s a b f text in
      let same : (λ c. ltb c 256 && holds l c) ≡ f = λ i c. sets c i in
      rw slot (ap (λ (g : Sets). Ok (g, b)) same)),
)

-- what was read is in the set, by the grammar
pub reads_slot : (s : List ℕ) (a : ℕ) (r : Result (Parsed Codes) Refusal) → ended r ≡ behind (slot_at s a)
    → IfOk r (λ v. IfOk (slot_at s a) (λ w. (c : ℕ) → c < 256 → get_or v.value.has c false ≡ holds w.0 c)) → ReadsSlot s a r
reads_slot s a r value codes = record {
  derived = λ b. (
    (λ is.
        let (v, slot, out) = both (slot_at s a) _ b (sym value ∙ is) in
        ((events_of v).0, subst (λ e. EventText s a e (events_of v).0) (ok_same _ _ out) (slot_sound s a v slot))),
    (λ (f, text). let (l, slot, sets) = slot_complete s a b f text in value ∙ ap behind slot),
  );
  held = λ b f text. IfOk-weaker r _ _ (λ v in' c low.
      let (l, slot, sets) = slot_complete s a b f text in
      let all = rw slot at in' in
      let here = all c low in
      let set = sets c in
      grind (arith, nat_tests)) codes;
}
