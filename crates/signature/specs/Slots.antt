-- What the text of a slot says, and what a refusal leaves.
use Rattle.std.specs.Prelude.{◌≡◌, ℕ, ◌≤◌, Bool, cond, List, length, Ok, Err, Result, nat_lt}
use Rattle.text.specs.declared.refusal.Layer.TheVariants.{Slot}
use Rattle.text.specs.declared.refusal.Refusal.{Refusal}
use Rattle.text.specs.declared.refusal.Refusal.TheVariants.{ExtraSlot}
use Rattle.text.specs.Refusals.{◌then◌}
use Rattle.text.specs.Words.{place_in}
use Rattle.signature.specs.Sets.{nothing}

-- of a text and a place: the set of readings and the place behind the slot, or a refusal
abbrev pub Reads : Type 0 → Type 0
Reads R = List ℕ → ℕ → Result ((R → Bool) × ℕ) Refusal

-- the set that is read; empty where the text is refused
abbrev pub set_of : {R : Type 0} → Result ((R → Bool) × ℕ) Refusal → R → Bool
set_of (Ok v) = v.0
set_of (Err e) = nothing

-- the answer to writing a slot at a place: there are 32 slots
abbrev pub end_of : {V : Type 0} → ℕ → ℕ → Result (V × ℕ) Refusal → Result ℕ Refusal
end_of slot at r = cond (nat_lt slot 32) (r then (λ v. Ok v.1)) (Err (ExtraSlot Slot at))

-- the end lies from the place to the text's end
abbrev pub Within : {R : Type 0} → Reads R → Type 0
Within {R} reads = (s : List ℕ) (at : ℕ) (v : R → Bool) (e : ℕ) → reads s at ≡ Ok (v, e) → (place_in s at ≤ e) × (e ≤ length s)

-- a place past the text counts as its end
abbrev pub Past : {R : Type 0} → Reads R → Type 0
Past reads = (s : List ℕ) (at : ℕ) → length s ≤ at → reads s at ≡ reads s (length s)
