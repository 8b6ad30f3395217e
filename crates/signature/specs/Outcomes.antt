-- What the text of a signature is read as, or why it is refused.
use Rattle.std.specs.Prelude.{◌≡◌, ℕ, zero, suc, ◌<◌, Bool, cond, List, [], ◌∷◌, length, Ok, Err, Result, nat_le, slice_index_or}
use Rattle.text.specs.declared.mark.Mark.TheVariants.{Dash}
use Rattle.text.specs.declared.refusal.Layer.TheVariants.{Signature}
use Rattle.text.specs.declared.refusal.Refusal.{Refusal}
use Rattle.text.specs.declared.refusal.Refusal.TheVariants.{LongText, ExtraSlot}
use Rattle.text.specs.Refusals.{◌then◌}
use Rattle.text.specs.Marks.{mark_taken}
use Rattle.runs.specs.declared.gap.Gap.{Gap}
use Rattle.runs.specs.declared.signature.Signature.{Signature as Shape}
use Rattle.runs.specs.Signatures.{gaps_of, BlankFrom}
use Rattle.signature.specs.Sets.{nothing}
use Rattle.signature.specs.Slots.{Reads}
use Rattle.signature.specs.Joins.{join_at, no_gap_at}

-- the sets of some neighbouring slots, and the gaps that stand before them
pub record Plan (R : Type 0) : Type 0 where
  pub sets : List (R → Bool)
  pub gaps : List Gap

module _ {R : Type 0} (reads : Reads R) where
  -- from the end of a slot on, where at most n more slots may follow
  abbrev pub rest_at : ℕ → List ℕ → ℕ → Result (Plan R) Refusal
  rest_at zero s at =
      cond (nat_le (length s) at) (Ok (record { sets = []; gaps = [] }))
      (mark_taken Signature Dash s at then (λ next. Err (ExtraSlot Signature next)))
  rest_at (suc n) s at =
      cond (nat_le (length s) at) (Ok (record { sets = []; gaps = [] }))
      (mark_taken Signature Dash s at then (λ next.
      join_at s next then (λ j.
      reads s j.end then (λ v.
      rest_at n s v.1 then (λ p.
      Ok (record { sets = v.0 ∷ p.sets; gaps = j.value ∷ p.gaps }))))))

  -- the first slot, and then the rest
  abbrev pub slots_at : List ℕ → Result (Plan R) Refusal
  slots_at s =
      no_gap_at s 0 then (λ at.
      reads s at then (λ v.
      rest_at 31 s v.1 then (λ p.
      Ok (record { sets = v.0 ∷ p.sets; gaps = p.gaps }))))

  -- a text of at most 4,096 bytes
  unfoldable pub signature_at : List ℕ → Result (Plan R) Refusal
  signature_at s = cond (nat_le (length s) 4096) (slots_at s) (Err LongText)

module _ {R : Type 0} where
  -- the set of slot j: empty past the last slot, and after a refusal
  abbrev pub slot_set : Result (Plan R) Refusal → ℕ → R → Bool
  slot_set (Ok p) j = slice_index_or p.sets j nothing
  slot_set (Err e) j = nothing

  -- how many slots were read, and the gaps between them: none after a refusal
  abbrev pub slot_count : Result (Plan R) Refusal → ℕ
  slot_count (Ok p) = length p.sets
  slot_count (Err e) = 0

  abbrev pub gap_list : Result (Plan R) Refusal → List Gap
  gap_list (Ok p) = p.gaps
  gap_list (Err e) = []

  -- what reading leaves: each of the 32 slots has its set, the signature has the slots and the gaps,
  -- and every gap past them is 0 to 0
  pub record Left (o : Result (Plan R) Refusal) (sets : ℕ → R → Bool) (s : Shape) : Type 0 where
    pub held : (j : ℕ) → j < 32 → (x : R) → sets j x ≡ slot_set o j x
    pub slots : s.slots ≡ slot_count o
    pub gaps : gaps_of s ≡ gap_list o
    pub past : BlankFrom s (length (gap_list o))

  abbrev pub answer : Result (Plan R) Refusal → Result (Unit {0}) Refusal
  answer o = o then (λ _. Ok tt)
