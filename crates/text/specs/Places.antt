-- What the place of a refusal tells.
use Rattle.std.specs.Prelude.{ℕ, ◌≤◌, List, ◌++◌, length, take}
use Rattle.text.specs.declared.refusal.Layer.{Layer}
use Rattle.text.specs.declared.refusal.Refusal.{Refusal}
use Rattle.text.specs.declared.refusal.Refusal.TheVariants.{NoDigit, NoMark, ExtraSlot, StrayGap}
use Rattle.text.specs.Refusals.{place_of}

-- the refusals for which the bytes up to their place, and at it, are reason enough, whatever follows
pub data AtPlace : Refusal → Type 0 where
  digit : {p : ℕ} → AtPlace (NoDigit p)
  mark : {l : Layer} {p : ℕ} → AtPlace (NoMark l p)
  slot : {l : Layer} {p : ℕ} → AtPlace (ExtraSlot l p)
  gap : {p : ℕ} → AtPlace (StrayGap p)

-- the bytes from place a up to a refusal's place begin some part of a kind, which ends its text
abbrev pub Begins : (List ℕ → ℕ → ℕ → Type 0) → List ℕ → ℕ → Refusal → Type 0
Begins Part s a x = (a ≤ place_of x) × (place_of x ≤ length s) × ((r : List ℕ) × Part (take (place_of x) s ++ r) a (length (take (place_of x) s ++ r)))
