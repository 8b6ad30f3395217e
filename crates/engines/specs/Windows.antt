-- A strip of 64 places with the places before it: bit i of a strip is its place i from the end, bit i of what came
-- before it the place i before the strip.
use Rattle.std.specs.Prelude.{◌≡◌, ℕ, ◌+◌, ◌-◌, ◌<◌, ◌≤◌, Bool, true, cond, Decides, nat_lt}
use Rattle.runs.specs.Bits.{bit}

-- the place i back from the strip's end, and on into the places before the strip
abbrev pub back : ℕ → ℕ → ℕ → Bool
back past here i = cond (nat_lt i 64) (bit here i) (bit past (i - 64))

-- before place i of the strip, at a distance from lo to hi, a place is set
abbrev pub Reached : ℕ → ℕ → ℕ → ℕ → ℕ → Type 0
Reached lo hi past here i = (d : ℕ) × (lo ≤ d) × (d ≤ hi) × (back past here (i + 1 + d) ≡ true)

-- the bits of a strip tell of which of its places P holds
abbrev pub Tells : (ℕ → Type 0) → ℕ → Type 0
Tells P w = (i : ℕ) → i < 64 → Decides (bit w i) (P i)
