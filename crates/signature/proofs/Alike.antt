-- The reading of a signature looks at no byte past the place where it is refused.
use Rattle.std.proofs.Common.{◌≡◌, ℕ, zero, suc, ◌+◌, ◌≤◌, Bool, true, false, leb, List, length, take, Err, sym, refl, ap, ◌∙◌, subst, ⊎_elim, arith}
use Rattle.std.proofs.lemmas.List.{take-take}
use Rattle.std.proofs.lemmas.Bool.{cases_Bool}
use Rattle.std.proofs.lemmas.Bool.Decides.{nat_tests}
use Rattle.text.specs.declared.mark.Mark.TheVariants.{Dash, Gap as Cross, Open, Comma, Close}
use Rattle.text.specs.declared.parsed.Parsed.{Parsed}
use Rattle.text.specs.declared.refusal.Layer.TheVariants.{Signature}
use Rattle.text.specs.declared.refusal.Refusal.{Refusal}
use Rattle.text.specs.declared.refusal.Refusal.TheVariants.{LongText}
use Rattle.text.specs.Refusals.{place_of}
use Rattle.text.specs.Marks.{is_mark}
use Rattle.text.specs.Places.{AtPlace}
use Rattle.text.proofs.Steps.{err_same}
use Rattle.text.proofs.Local.{Agree, agree, Local, ok_local, err_local, cond_local, then_local, same_mark, inside, mark_local, number_local, not_long, not_backward}
use Rattle.runs.specs.declared.gap.Gap.{Gap}
use Rattle.signature.specs.Slots.{Reads, Within}
use Rattle.signature.specs.Joins.{gap_at, no_gap_at, join_at}
use Rattle.signature.specs.Outcomes.{Plan, rest_at, slots_at, signature_at}
use Rattle.signature.specs.Refused.{Looks, RefusedAlike}

-- texts that agree up to a place agree up to an earlier one
pub shorter : (s t : List ℕ) (p q : ℕ) → q ≤ p → take (p + 1) t ≡ take (p + 1) s → take (q + 1) t ≡ take (q + 1) s
shorter s t p q le same = sym (take-take (q + 1) (p + 1) t (omega arith)) ∙ ap (take (q + 1)) same ∙ take-take (q + 1) (p + 1) s (omega arith)

module _ (s t : List ℕ) (p : ℕ) (h : Agree s t p) where
  abbrev place : ℕ → ℕ
  place e = e

  abbrev ends : Parsed Gap → ℕ
  ends j = j.end

  abbrev stops : Parsed ℕ → ℕ
  stops n = n.end

  gap_local : (a : ℕ) → Local p a (gap_at s a) (gap_at t a) ends
  gap_local a =
      then_local p a place ends _ _ _ _ (mark_local s t p h Signature Cross a) (λ b _.
      then_local p b place ends _ _ _ _ (mark_local s t p h Signature Open b) (λ c _.
      then_local p c stops ends _ _ _ _ (number_local s t p h 63 c) (λ lo _.
      then_local p lo.end place ends _ _ _ _ (mark_local s t p h Signature Comma lo.end) (λ e _.
      then_local p e stops ends _ _ _ _ (number_local s t p h 63 e) (λ hi _.
      cond_local p hi.end ends (leb lo.value hi.value) (leb lo.value hi.value) _ _ _ _ (λ _. refl)
      (λ _. then_local p hi.end place ends _ _ _ _ (mark_local s t p h Signature Close hi.end) (λ e _. ok_local p e ends _ (λ l. l)))
      (λ _. err_local p hi.end ends _ _ (λ at l. absurd (not_backward Signature c at))))))))

  no_gap_local : (a : ℕ) → Local p a (no_gap_at s a) (no_gap_at t a) place
  no_gap_local a =
      cond_local p a place (is_mark Cross s a) (is_mark Cross t a) _ _ _ _ (same_mark s t p h Cross a)
      (λ _. err_local p a place _ _ (λ at l. (l, refl)))
      (λ _. ok_local p a place a (λ l. l))

  join_local : (a : ℕ) → Local p a (join_at s a) (join_at t a) ends
  join_local a =
      cond_local p a ends (is_mark Cross s a) (is_mark Cross t a) _ _ _ _ (same_mark s t p h Cross a)
      (λ _. then_local p a ends ends _ _ _ _ (gap_local a) (λ g _.
      then_local p g.end place ends _ _ _ _ (mark_local s t p h Signature Dash g.end) (λ e _.
      then_local p e place ends _ _ _ _ (no_gap_local e) (λ b _. ok_local p b ends _ (λ l. l)))))
      (λ _. ok_local p a ends _ (λ l. l))

  module _ {R : Type 0} (reads : Reads R) (looks : Looks reads) (within : Within reads) where
    abbrev behind : (R → Bool) × ℕ → ℕ
    behind v = v.1

    -- no plan ends before the text does
    abbrev past : Plan R → ℕ
    past _ = suc p

    slot_local : (a : ℕ) → Local p a (reads s a) (reads t a) behind
    slot_local a = record {
      ok = λ v is l.
          let in' = within s a v.0 v.1 is in
          ((inside s t p h a (omega arith)).0, looks.read s t a v.0 v.1 is (shorter s t p v.1 l h.front));
      err = λ x is at l.
          let on = looks.onward s a x is at in
          ((inside s t p h a (omega arith)).0, looks.refused s t a x is at (shorter s t p (place_of x) l h.front));
    }

    same_end : (a : ℕ) → a ≤ p → leb (length s) a ≡ leb (length t) a
    same_end a l = let left = h.left in let right = h.right in grind (arith, nat_tests)

    rest_local : (n a : ℕ) → Local p a (rest_at reads n s a) (rest_at reads n t a) past
    rest_local zero a =
        cond_local p a past (leb (length s) a) (leb (length t) a) _ _ _ _ (same_end a)
        (λ _. ok_local p a past _ (λ l. absurd (omega arith)))
        (λ _. then_local p a place past _ _ _ _ (mark_local s t p h Signature Dash a) (λ b _. err_local p b past _ _ (λ at l. (l, refl))))
    rest_local (suc n) a =
        cond_local p a past (leb (length s) a) (leb (length t) a) _ _ _ _ (same_end a)
        (λ _. ok_local p a past _ (λ l. absurd (omega arith)))
        (λ _. then_local p a place past _ _ _ _ (mark_local s t p h Signature Dash a) (λ b _.
        then_local p b ends past _ _ _ _ (join_local b) (λ j _.
        then_local p j.end behind past _ _ _ _ (slot_local j.end) (λ v _.
        then_local p v.1 past past _ _ _ _ (rest_local n v.1) (λ q _. ok_local p (suc p) past _ (λ l. l))))))

    slots_local : Local p 0 (slots_at reads s) (slots_at reads t) past
    slots_local =
        then_local p 0 place past _ _ _ _ (no_gap_local 0) (λ a _.
        then_local p a behind past _ _ _ _ (slot_local a) (λ v _.
        then_local p v.1 past past _ _ _ _ (rest_local 31 v.1) (λ q _. ok_local p (suc p) past _ (λ l. l))))

module _ {R : Type 0} (reads : Reads R) (looks : Looks reads) (within : Within reads) where
  slots_alike : (s t : List ℕ) (x : Refusal) → slots_at reads s ≡ Err x → AtPlace x → take (place_of x + 1) t ≡ take (place_of x + 1) s → slots_at reads t ≡ Err x
  slots_alike s t x is at same =
      ⊎_elim
      (λ (e : t ≡ s). ap (slots_at reads) e ∙ is)
      (λ (h : Agree s t (place_of x)). ((slots_local s t (place_of x) h reads looks within).err x is at (omega arith)).1)
      (agree s t (place_of x) same)

  pub refused_alike : (s : List ℕ) → RefusedAlike reads s
  unfolding signature_at
  refused_alike s x t is at same few =
      let t' : leb (length t) 4096 ≡ true = grind (arith, nat_tests) in
      ⊎_elim
      (λ (y : leb (length s) 4096 ≡ true). rw t' (slots_alike s t x (rw y at is) at same))
      (λ (n : leb (length s) 4096 ≡ false). absurd (not_long (subst AtPlace (sym (err_same LongText x (rw n at is))) at)))
      (cases_Bool (leb (length s) 4096))
