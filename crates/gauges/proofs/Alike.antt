-- The reading of a slot of event codes looks at no byte past the one behind the slot, or past where it is refused.
use Rattle.std.proofs.Common.{◌≡◌, ℕ, zero, suc, ◌+◌, ◌<◌, ◌≤◌, cond, leb, List, ◌∷◌, length, Ok, sym, refl, ap, ◌∙◌, ⊎_elim, arith}
use Rattle.std.proofs.lemmas.Bool.{cases_lt}
use Rattle.text.specs.declared.mark.Mark.{Mark}
use Rattle.text.specs.declared.mark.Mark.TheVariants.{ClassOpen, ClassClose, BarredOpen, BarredClose, Colon, Space}
use Rattle.text.specs.declared.parsed.Parsed.{Parsed}
use Rattle.text.specs.declared.refusal.Layer.TheVariants.{Slot}
use Rattle.text.specs.Refusals.{◌then◌, place_of}
use Rattle.text.specs.Marks.{is_mark, mark_taken}
use Rattle.text.proofs.Steps.{then_same}
use Rattle.text.proofs.Bounds.{mark_inside, mark_within}
use Rattle.text.proofs.Local.{Agree, agree, Local, ok_local, err_local, later_local, cond_local, then_local, same_mark, mark_local, number_local, not_backward}
use Rattle.signature.specs.Refused.{Looks, RefusedAlike}
use Rattle.signature.proofs.Alike.{refused_alike}
use Rattle.text.specs.declared.parsed.Parsed.{Parsed}
use Rattle.gauges.specs.declared.code_set.Member.{Member}
use Rattle.gauges.specs.Codes.{member_at, members_from, members_at, slot_at, event_at}
use Rattle.gauges.specs.Ends.{event_within}
use Rattle.gauges.proofs.Derived.{member_inside, member_sound}

-- as long as they suffice, the turns allowed make no difference
turns : (n k : ℕ) (shut : Mark) (s : List ℕ) (a : ℕ) → a ≤ length s → length s < a + n → length s < a + k → members_from n shut s a ≡ members_from k shut s a
turns zero k shut s a in' l m = absurd (omega arith)
turns (suc n) zero shut s a in' l m = absurd (omega arith)
turns (suc n) (suc k) shut s a in' l m =
    then_same (member_at s a) _ _ (λ v is.
    let on = member_inside s a v.end _ (member_sound s a v is) in
    ap (cond (is_mark shut s v.end) _) (then_same (mark_taken Slot Space s v.end) _ _ (λ e space.
    let w = mark_within Slot Space s v.end e space in
    ap (λ r. ◌then◌ {B = List Member × ℕ} r (λ rest. Ok (v.value ∷ rest.0, rest.1))) (turns n k shut s e w.1 (omega arith) (omega arith)))))

module _ (s t : List ℕ) (p : ℕ) (h : Agree s t p) where
  abbrev place : ℕ → ℕ
  place e = e

  abbrev stops : Parsed ℕ → ℕ
  stops n = n.end

  abbrev ends : Parsed Member → ℕ
  ends m = m.end

  abbrev behind : {V : Type 0} → V × ℕ → ℕ
  behind v = v.1

  member_local : (a : ℕ) → Local p a (member_at s a) (member_at t a) ends
  member_local a =
      then_local p a stops ends _ _ _ _ (number_local s t p h 255 a) (λ v _.
      cond_local p v.end ends (is_mark Colon s v.end) (is_mark Colon t v.end) _ _ _ _ (same_mark s t p h Colon v.end)
      (λ _. later_local p v.end ends (v.end + 1) _ _ (omega arith) (then_local p (v.end + 1) stops ends _ _ _ _ (number_local s t p h 255 (v.end + 1)) (λ w _.
      cond_local p w.end ends (leb v.value w.value) (leb v.value w.value) _ _ _ _ (λ _. refl)
      (λ _. ok_local p w.end ends _ (λ l. l))
      (λ _. err_local p w.end ends _ _ (λ at l. absurd (not_backward Slot a at))))))
      (λ _. ok_local p v.end ends _ (λ l. l)))

  -- with the same number of turns allowed
  turned_local : (n : ℕ) (shut : Mark) (a : ℕ) → length s < a + n → Local p a (members_from n shut s a) (members_from n shut t a) behind
  turned_local zero shut a room = err_local p a behind _ _ (λ at l. absurd (let left = h.left in omega arith))
  turned_local (suc n) shut a room =
      then_local p a ends behind _ _ _ _ (member_local a) (λ v is.
      let on = member_inside s a v.end _ (member_sound s a v is) in
      cond_local p v.end behind (is_mark shut s v.end) (is_mark shut t v.end) _ _ _ _ (same_mark s t p h shut v.end)
      (λ _. ok_local p v.end behind _ (λ l. omega arith))
      (λ _. then_local p v.end place behind _ _ _ _ (mark_local s t p h Slot Space v.end) (λ e space.
      let w = mark_within Slot Space s v.end e space in
      then_local p e behind behind _ _ _ _ (turned_local n shut e (omega arith)) (λ r _. ok_local p r.1 behind _ (λ l. l)))))

  members_local : (shut : Mark) (a : ℕ) → a ≤ length s → Local p a (members_at shut s a) (members_at shut t a) behind
  unfolding members_at
  members_local shut a in' =
      let n = suc (length s + length t) in
      let right = h.right in
      let all = turned_local n shut a (omega arith) in
      let here = turns n (suc (length s)) shut s a in' (omega arith) (omega arith) in
      let there : a ≤ p → members_from n shut t a ≡ members_from (suc (length t)) shut t a = λ l. turns n (suc (length t)) shut t a (omega arith) (omega arith) (omega arith) in
      record {
        ok = λ v is l. let told = all.ok v (here ∙ is) l in (told.0, sym (there told.0) ∙ told.1);
        err = λ x is at l. let told = all.err x (here ∙ is) at l in (told.0, sym (there told.0) ∙ told.1);
      }

  slot_local : (a : ℕ) → Local p a (slot_at s a) (slot_at t a) behind
  slot_local a =
      cond_local p a behind (is_mark ClassOpen s a) (is_mark ClassOpen t a) _ _ _ _ (same_mark s t p h ClassOpen a)
      (λ u. let in' = mark_inside ClassOpen s a u in later_local p a behind (a + 1) _ _ (omega arith) (then_local p (a + 1) behind behind _ _ _ _ (members_local ClassClose (a + 1) (omega arith)) (λ r _. ok_local p r.1 behind _ (λ l. l))))
      (λ _. cond_local p a behind (is_mark BarredOpen s a) (is_mark BarredOpen t a) _ _ _ _ (same_mark s t p h BarredOpen a)
      (λ u. let in' = mark_inside BarredOpen s a u in later_local p a behind (a + 1) _ _ (omega arith) (then_local p (a + 1) behind behind _ _ _ _ (members_local BarredClose (a + 1) (omega arith)) (λ r _. ok_local p r.1 behind _ (λ l. l))))
      (λ _. then_local p a stops behind _ _ _ _ (number_local s t p h 255 a) (λ n _. ok_local p n.end behind _ (λ l. l))))

  event_local : (a : ℕ) → Local p a (event_at s a) (event_at t a) behind
  unfolding event_at
  event_local a = then_local p a behind behind _ _ _ _ (slot_local a) (λ v _. ok_local p v.1 behind _ (λ l. l))

pub event_looks : Looks event_at
event_looks = record {
  read = λ s t a set e is same.
      ⊎_elim
      (λ (one : t ≡ s). ap (λ z. event_at z a) one ∙ is)
      (λ (h : Agree s t e). ((event_local s t e h a).ok (set, e) is (omega arith)).1)
      (agree s t e same);
  refused = λ s t a x is at same.
      ⊎_elim
      (λ (one : t ≡ s). ap (λ z. event_at z a) one ∙ is)
      (λ (h : Agree s t (place_of x)). ((event_local s t (place_of x) h a).err x is at (omega arith)).1)
      (agree s t (place_of x) same);
  onward = λ s a x is at.
      ⊎_elim
      (λ (l : place_of x < length s). let on = ((event_local s s (place_of x) (record { left = l; right = l; front = refl }) a).err x is at (omega arith)).0 in omega arith)
      (λ (l : length s ≤ place_of x). omega arith)
      (cases_lt (place_of x) (length s));
}

pub event_alike : (s : List ℕ) → RefusedAlike event_at s
event_alike s = refused_alike event_at event_looks event_within s
