-- The sets that a table of codes holds.
use Rattle.std.specs.Prelude.{ℕ, Bool, List, slice_index}
use Rattle.runs.specs.Bits.{bit}

-- bit j of a code's entry says that the code is in set j; no number past the table is
abbrev pub held : List ℕ → ℕ → ℕ → Bool
held table j x = bit (slice_index table x) j
