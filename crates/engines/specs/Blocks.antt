-- Blocks of ones.
use Rattle.std.specs.Prelude.{ℕ, ◌-◌, ◌*◌, ◌^◌}

-- the number with k ones, at the places from s on
abbrev pub block : ℕ → ℕ → ℕ
block s k = (2 ^ k - 1) * 2 ^ s
