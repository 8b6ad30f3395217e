-- What one turn of reading slots keeps: the whole text is read as what is in hand, and then the rest.
use Rattle.std.proofs.Common.{◌≡◌, ℕ, zero, suc, ◌+◌, ◌-◌, ◌<◌, ◌≤◌, Bool, true, false, cond, eqb, leb, List, [], ◌∷◌, ◌++◌, length, get_or, is_ok, Ok, Err, Result, sym, refl, ap, ◌∙◌, subst, append_assoc, append-nil, arith, length-append, length-take-le}
use Rattle.std.proofs.lemmas.Bool.Decides.{nat_tests}
use Rattle.text.specs.declared.mark.Mark.TheVariants.{Dash}
use Rattle.text.specs.declared.parsed.Parsed.{Parsed}
use Rattle.text.specs.declared.refusal.Layer.TheVariants.{Signature}
use Rattle.text.specs.declared.refusal.Refusal.{Refusal}
use Rattle.text.specs.declared.refusal.Refusal.TheVariants.{ExtraSlot}
use Rattle.text.specs.Refusals.{◌then◌}
use Rattle.text.specs.Marks.{mark_taken}
use Rattle.runs.specs.declared.signature.Signature.{Signature as Shape}
use Rattle.runs.specs.Signatures.{gaps_of, BlankFrom}
use Rattle.signature.specs.Sets.{nothing, Put}
use Rattle.runs.specs.declared.gap.Gap.{Gap}
use Rattle.signature.specs.Slots.{Reads, end_of}
use Rattle.signature.specs.Joins.{join_at, no_gap_at}
use Rattle.signature.specs.Outcomes.{Plan, rest_at, slots_at, Left, answer}

-- what writing a slot answered tells what the text was read as
pub read_as : {V : Type 0} (slot at e : ℕ) (r : Result (V × ℕ) Refusal) → slot < 32 → Ok e ≡ end_of slot at r → (v : V) × (r ≡ Ok (v, e))
read_as slot at e (Ok v) few is = (v.0, let same : v.1 ≡ e = grind (arith, nat_tests) in ap (λ (n : ℕ). Ok (v.0, n)) same)
read_as slot at e (Err x) few is = grind (arith, nat_tests)

pub refused_as : {V : Type 0} (slot at : ℕ) (x : Refusal) (r : Result (V × ℕ) Refusal) → slot < 32 → Err x ≡ end_of slot at r → r ≡ Err x
refused_as slot at x (Ok v) few is = grind (arith, nat_tests)
refused_as slot at x (Err y) few is = grind (arith, nat_tests)

pushed : {R : Type 0} (vs : List (R → Bool)) (v : R → Bool) (i : ℕ) (x : R) → get_or (vs ++ v ∷ []) i nothing x ≡ cond (eqb i (length vs)) (v x) (get_or vs i nothing x)
pushed [] v zero x = refl
pushed [] v (suc i) x = grind (arith, nat_tests)
pushed (u ∷ vs) v zero x = grind (arith, nat_tests)
pushed (u ∷ vs) v (suc i) x = let same = pushed vs v i x in grind (arith, nat_tests)

module _ {R : Type 0} (reads : Reads R) (s : List ℕ) where
  -- the slots in hand before those that are still to be read
  abbrev pub before : Plan R → Plan R → Result (Plan R) Refusal
  before p rest = Ok (record { sets = p.sets ++ rest.sets; gaps = p.gaps ++ rest.gaps })

  pub record Sofar (at : ℕ) (sets : ℕ → R → Bool) (sig : Shape) : Type 0 where
    pub room : ℕ
    pub plan : Plan R
    pub slots : sig.slots + room ≡ 32
    pub some : 0 < sig.slots
    pub count : length plan.sets ≡ sig.slots
    pub within : at ≤ length s
    pub whole : slots_at reads s ≡ (rest_at reads room s at then before plan)
    pub gaps : gaps_of sig ≡ plan.gaps
    pub past : BlankFrom sig (sig.slots - 1)
    pub held : (j : ℕ) → j < 32 → (x : R) → sets j x ≡ get_or plan.sets j nothing x

  -- one slot is read
  pub begun : (v : R → Bool) (at e : ℕ) (was sets : ℕ → R → Bool) (sig : Shape)
      → no_gap_at s 0 ≡ Ok at → reads s at ≡ Ok (v, e) → e ≤ length s → sig.slots ≡ 1 → BlankFrom sig 0
      → ((j : ℕ) → j < 32 → (x : R) → was j x ≡ false) → Put 0 v was sets → Sofar e sets sig
  begun v at e was sets sig start is in' one blank empty put = record {
    room = 31;
    plan = record { sets = v ∷ []; gaps = [] };
    slots = omega arith;
    some = omega arith;
    count = sym one;
    within = in';
    whole = rw (start, is) refl;
    gaps = rw one refl;
    past = rw one blank;
    held = held;
  }
    where
      held : (j : ℕ) → j < 32 → (x : R) → sets j x ≡ get_or (v ∷ []) j nothing x
      held zero l x = put 0 l x
      held (suc j) l x = let p = put (suc j) l x in let w = empty (suc j) l x in grind (arith, nat_tests)

  none_left : (n at : ℕ) → length s ≤ at → rest_at reads n s at ≡ Ok (record { sets = []; gaps = [] })
  none_left zero at l = let t : leb (length s) at ≡ true = grind (arith, nat_tests) in rw t refl
  none_left (suc n) at l = let t : leb (length s) at ≡ true = grind (arith, nat_tests) in rw t refl

  no_dash : (n at : ℕ) (x : Refusal) → at < length s → mark_taken Signature Dash s at ≡ Err x → rest_at reads n s at ≡ Err x
  no_dash zero at x l is = let t : leb (length s) at ≡ false = grind (arith, nat_tests) in rw (t, is) refl
  no_dash (suc n) at x l is = let t : leb (length s) at ≡ false = grind (arith, nat_tests) in rw (t, is) refl

  module _ {at : ℕ} {sets : ℕ → R → Bool} {sig : Shape} (h : Sofar at sets sig) where
    -- the text ends behind a slot
    pub ended : length s ≤ at → (slots_at reads s ≡ Ok h.plan) × Left (slots_at reads s) sets sig
    ended l = (is, rw is (record { held = h.held; slots = sym h.count; gaps = h.gaps; past = past }))
      where
        is : slots_at reads s ≡ Ok h.plan
        is = h.whole ∙ rw (none_left h.room at l) (simp append-nil)

        past : BlankFrom sig (length h.plan.gaps)
        past =
            let long : length h.plan.gaps ≡ sig.slots - 1 = sym (ap length h.gaps) ∙ length-take-le (sig.slots - 1) sig.gaps (omega (arith, sig.few, sig.long)) in
            subst (BlankFrom sig) (sym long) h.past

    pub refused_dash : (x : Refusal) → at < length s → mark_taken Signature Dash s at ≡ Err x → slots_at reads s ≡ Err x
    refused_dash x l is = h.whole ∙ rw (no_dash h.room at x l is) refl

    module _ (next : ℕ) (l : at < length s) (is : mark_taken Signature Dash s at ≡ Ok next) where
      -- no slot may follow
      pub refused_full : 32 ≤ sig.slots → slots_at reads s ≡ Err (ExtraSlot Signature next)
      refused_full full =
          let t : leb (length s) at ≡ false = grind (arith, nat_tests) in
          let none : h.room ≡ 0 = omega (arith, h.slots) in
          h.whole ∙ rw (none, t, is) refl

      module _ (n : ℕ) (more : h.room ≡ suc n) where
        opened : slots_at reads s ≡ ((join_at s next then (λ j. reads s j.end then (λ v. rest_at reads n s v.1 then (λ p. Ok (record { sets = v.0 ∷ p.sets; gaps = j.value ∷ p.gaps }))))) then before h.plan)
        opened = let t : leb (length s) at ≡ false = grind (arith, nat_tests) in h.whole ∙ rw (more, t, is) refl

        pub refused_join : (x : Refusal) → join_at s next ≡ Err x → slots_at reads s ≡ Err x
        refused_join x e = opened ∙ rw e refl

        pub refused_slot : (j : Parsed Gap) (x : Refusal) → join_at s next ≡ Ok j → reads s j.end ≡ Err x → slots_at reads s ≡ Err x
        refused_slot j x e f = opened ∙ rw (e, f) refl

        module _ (j : Parsed Gap) (v : R → Bool) (e : ℕ) (join : join_at s next ≡ Ok j) (read : reads s j.end ≡ Ok (v, e)) where
          -- one slot more is in hand
          abbrev longer : Plan R
          longer = record { sets = h.plan.sets ++ v ∷ []; gaps = h.plan.gaps ++ j.value ∷ [] }

          moved : (r : Result (Plan R) Refusal) → ((r then (λ p. Ok (record { sets = v ∷ p.sets; gaps = j.value ∷ p.gaps }))) then before h.plan) ≡ (r then before longer)
          moved (Ok p) = simp append_assoc
          moved (Err x) = refl

          pub turned : (after : ℕ → R → Bool) (sig' : Shape) → e ≤ length s → Put sig.slots v sets after
              → sig'.slots ≡ sig.slots + 1 → gaps_of sig' ≡ gaps_of sig ++ j.value ∷ []
              → (BlankFrom sig (sig.slots - 1) → BlankFrom sig' (sig'.slots - 1)) → Sofar e after sig'
          turned after sig' in' put slots gaps past = record {
            room = n;
            plan = longer;
            slots = omega (arith, h.slots);
            some = omega arith;
            count = simp length-append (omega (arith, h.count));
            within = in';
            whole = (opened ∙ rw (join, read) refl) ∙ moved (rest_at reads n s e);
            gaps = gaps ∙ ap (λ gs. gs ++ j.value ∷ []) h.gaps;
            past = past h.past;
            held = λ i l x.
                let new = put i l x in
                let old = h.held i l x in
                let all = pushed h.plan.sets v i x in
                let long = h.count in
                grind (arith, nat_tests);
          }

-- a refusal is handed on as it is
pub handed : {R : Type 0} {L : Type 0} (o : Result (Plan R) Refusal) (r : Result (Unit {0}) Refusal) (x : Refusal) → o ≡ Err x → r ≡ Err x → (r ≡ answer o) × (is_ok r ≡ true → L)
handed o r x is gave = (gave ∙ rw is refl, λ t. grind (arith, nat_tests))
