-- A ring of the last 64 words.
use Rattle.std.specs.Prelude.{ℕ, ◌+◌, ◌-◌, ◌%◌, List, slice_index}
use Rattle.runs.specs.Bits.{bit}
use Rattle.engines.specs.Memory.{Memory}

-- the word at distance d, where the next word goes to `next`
abbrev pub ago : List ℕ → ℕ → ℕ → ℕ
ago past next d = slice_index past ((next + 63 - d) % 64)

-- what the words say: bit j of the word at distance d
abbrev pub past_says : List ℕ → ℕ → Memory
past_says past next j d = bit (ago past next d) j
