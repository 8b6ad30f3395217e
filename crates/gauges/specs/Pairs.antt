-- Two slots with a mark between them, each of a gauge of its own.
use Rattle.std.specs.Prelude.{◌≡◌, ℕ, ◌<◌, Bool, not, ◌&&◌, List, Ok, Err, Result, ◌≢◌}
use Rattle.text.specs.declared.mark.Mark.{Mark}
use Rattle.text.specs.declared.mark.Mark.TheVariants.{And, Bang}
use Rattle.text.specs.declared.refusal.Layer.TheVariants.{Slot}
use Rattle.text.specs.declared.refusal.Refusal.{Refusal}
use Rattle.text.specs.Refusals.{◌then◌}
use Rattle.text.specs.Marks.{mark_taken}
use Rattle.signature.specs.Sets.{nothing}
use Rattle.signature.specs.Slots.{Reads}

-- the sets of the left slot and of the right
pub record Parts (L R : Type 0) : Type 0 where
  pub left : L → Bool
  pub right : R → Bool

module _ {L R : Type 0} where
  -- left, mark, right: both sets, and the place behind the right slot
  unfoldable pub parts_at : Mark → Reads L → Reads R → List ℕ → ℕ → Result (Parts L R × ℕ) Refusal
  parts_at mark l r s at =
      l s at then (λ v.
      mark_taken Slot mark s v.1 then (λ next.
      r s next then (λ w.
      Ok (record { left = v.0; right = w.0 }, w.1))))

  -- the sets that are read; both empty where the text is refused
  abbrev pub left_of : Result (Parts L R × ℕ) Refusal → L → Bool
  left_of (Ok v) = v.0.left
  left_of (Err e) = nothing

  abbrev pub right_of : Result (Parts L R × ℕ) Refusal → R → Bool
  right_of (Ok v) = v.0.right
  right_of (Err e) = nothing

-- what two sets make together
abbrev pub Joins : Type 0 → Type 0 → Type 0 → Type 0
Joins L R V = (L → Bool) → (R → Bool) → V → Bool

-- what left, mark and right stand for
abbrev pub pair_at : {L R V : Type 0} → Mark → Joins L R V → Reads L → Reads R → Reads V
pair_at mark join l r s at = parts_at mark l r s at then (λ v. Ok (join v.0.left v.0.right, v.1))

module _ {R : Type 0} where
  -- what both sets hold: left, `&`, right
  abbrev pub meet : Joins R R R
  meet l r x = l x && r x

  abbrev pub both_at : Reads R → Reads R → Reads R
  both_at = pair_at And meet

  -- what the left set holds and the right does not: left, `!`, right
  abbrev pub less : Joins R R R
  less l r x = l x && not (r x)

  abbrev pub barring_at : Reads R → Reads R → Reads R
  barring_at = pair_at Bang less

  -- every set but n is as it was
  abbrev pub Kept : ℕ → (ℕ → R → Bool) → (ℕ → R → Bool) → Type 0
  Kept n before after = (j : ℕ) → j < 32 → (j ≢ n) → (x : R) → after j x ≡ before j x
