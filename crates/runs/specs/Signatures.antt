-- What a signature's value says.
use Rattle.std.specs.Prelude.{◌≡◌, ℕ, ◌-◌, ◌≤◌, Bool, List, take}
use Rattle.runs.specs.declared.gap.Gap.{Gap}
use Rattle.runs.specs.declared.signature.Signature.{Signature}
use Rattle.runs.specs.Gaps.{low, high}
use Rattle.runs.specs.Runs.{Pattern}

-- one gap fewer than there are slots
abbrev pub gaps_of : Signature → List Gap
gaps_of s = take (s.slots - 1) s.gaps

-- the pattern of a signature, with the set of each slot's readings
abbrev pub pattern_of : {R : Type 0} → (ℕ → R → Bool) → Signature → Pattern R
pattern_of sets s = record { sets = sets; gaps = gaps_of s }

-- from gap n on, each is 0 to 0
abbrev pub BlankFrom : Signature → ℕ → Type 0
BlankFrom s n = (j : ℕ) → n ≤ j → (low s.gaps j ≡ 0) × (high s.gaps j ≡ 0)

-- no slots, and every gap 0 to 0
abbrev pub Blank : Signature → Type 0
Blank s = (s.slots ≡ 0) × BlankFrom s 0
