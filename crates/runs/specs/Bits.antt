-- Bits of a word: bit j counts 2 to the power j.
use Rattle.std.specs.Prelude.{ℕ, ◌/◌, ◌%◌, ◌^◌, Bool, ◌==◌}

abbrev pub bit : ℕ → ℕ → Bool
bit w j = w / 2 ^ j % 2 == 1
