-- Where what was read ends.
use Rattle.std.specs.Prelude.{ℕ, ◌<◌, ◌≤◌, List, length}
use Rattle.text.specs.declared.parsed.Parsed.{Parsed}

-- it takes some of the text from the place on, and ends within the text
abbrev pub Ahead : {V : Type 0} → List ℕ → ℕ → Parsed V → Type 0
Ahead s at p = (at < p.end) × (p.end ≤ length s)
