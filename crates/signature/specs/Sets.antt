-- The sets of readings that a gauge holds, one for each slot from 0 to 31.
use Rattle.std.specs.Prelude.{◌≡◌, ℕ, ◌<◌, Bool, false, cond, ◌==◌}
use Rattle.runs.specs.Bits.{bit}

-- the empty set
abbrev pub nothing : {R : Type 0} → R → Bool
nothing x = false

-- bit j of the word says whether the reading is in set j
abbrev pub Tried : {R : Type 0} → (ℕ → R → Bool) → R → ℕ → Type 0
Tried sets x w = (j : ℕ) → j < 32 → bit w j ≡ sets j x

-- set n became `set`, and every other is as it was
abbrev pub Put : {R : Type 0} → ℕ → (R → Bool) → (ℕ → R → Bool) → (ℕ → R → Bool) → Type 0
Put {R} n set before after = (j : ℕ) → j < 32 → (x : R) → after j x ≡ cond (j == n) (set x) (before j x)
