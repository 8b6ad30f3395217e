-- The grammar of a signature's text, over any gauge's slots: what stands in the text from place a up to place b.
use Rattle.std.specs.Prelude.{◌≡◌, ℕ, ◌≤◌, Bool, false, ◌↔◌, List, [], ◌∷◌, length, Ok, Result}
use Rattle.text.specs.declared.mark.Mark.TheVariants.{Dash, Gap as Cross, Open, Comma, Close}
use Rattle.text.specs.declared.refusal.Refusal.{Refusal}
use Rattle.text.specs.Marks.{is_mark}
use Rattle.text.specs.Grammar.{MarkText, NumberText}
use Rattle.runs.specs.declared.gap.Gap.{Gap}
use Rattle.runs.specs.declared.signature.Signature.{Signature as Shape}
use Rattle.runs.specs.Gaps.{no_gap}
use Rattle.signature.specs.Slots.{Reads}
use Rattle.signature.specs.Outcomes.{Plan, signature_at, Left}

-- what may stand between a `-` and the next slot
pub data JoinText (s : List ℕ) : ℕ → ℕ → Gap → Type 0 where
  -- nothing: the gap is 0 to 0
  none : {a : ℕ} → JoinText s a a no_gap
  -- `x(lo,hi)-`: lo at most hi, and hi at most 63
  gap : {a b c d e f g h lo hi : ℕ} → MarkText Cross s a b → MarkText Open s b c → NumberText s c d lo → MarkText Comma s d e → NumberText s e f hi
      → MarkText Close s f g → MarkText Dash s g h → lo ≤ hi → hi ≤ 63 → JoinText s a h (record { lo = lo; hi = hi })

module _ {R : Type 0} (reads : Reads R) (s : List ℕ) where
  -- a slot as the gauge reads it; no slot begins with an `x`
  pub record SlotText (a b : ℕ) (set : R → Bool) : Type 0 where
    pub begins : is_mark Cross s a ≡ false
    pub slot : reads s a ≡ Ok (set, b)

  -- what follows a slot, up to the end of the text
  pub data RestText : ℕ → Plan R → Type 0 where
    -- nothing
    end : {a : ℕ} → a ≡ length s → RestText a (record { sets = []; gaps = [] })
    -- `-` slot .., or `-x(lo,hi)-` slot ..
    more : {a b c d : ℕ} {g : Gap} {set : R → Bool} {p : Plan R} → MarkText Dash s a b → JoinText s b c g → SlotText c d set → RestText d p
        → RestText a (record { sets = set ∷ p.sets; gaps = g ∷ p.gaps })

  -- the whole text: a slot, and what follows it
  pub data SignatureText : Plan R → Type 0 where
    slots : {a : ℕ} {set : R → Bool} {p : Plan R} → SlotText 0 a set → RestText a p → SignatureText (record { sets = set ∷ p.sets; gaps = p.gaps })

  -- one text has at most one plan
  abbrev pub OnePlan : Type 0
  OnePlan = (p q : Plan R) → SignatureText p → SignatureText q → p ≡ q

  -- the text has at most 4,096 bytes and the plan at most 32 slots
  abbrev pub Derives : Plan R → Type 0
  Derives p = (length s ≤ 4096) × (length p.sets ≤ 32) × SignatureText p

  -- what is read is derived, and what is derived is read
  abbrev pub ReadsExactly : Type 0
  ReadsExactly = (p : Plan R) → signature_at reads s ≡ Ok p ↔ Derives p

  -- an answer is no refusal just where some plan is derived; that plan's slots and gaps are then in hand
  pub record Answers (r : Result (Unit {0}) Refusal) (sets : ℕ → R → Bool) (signature : Shape) : Type 0 where
    pub derived : r ≡ Ok tt ↔ ((p : Plan R) × Derives p)
    pub held : (p : Plan R) → Derives p → Left (Ok p) sets signature
