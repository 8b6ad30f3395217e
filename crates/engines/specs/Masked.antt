-- One mask of places for each slot.
use Rattle.std.specs.Prelude.{◌≡◌, ℕ, ◌+◌, ◌-◌, ◌<◌, List, slice_index}
use Rattle.runs.specs.declared.gap.Gap.{Gap}
use Rattle.runs.specs.Gaps.{low, high}
use Rattle.runs.specs.Bits.{bit}
use Rattle.engines.specs.Blocks.{block}
use Rattle.engines.specs.Memory.{Memory}

-- what the masks say: bit d of mask j
abbrev pub masks_say : List ℕ → Memory
masks_say masks j d = bit (slice_index masks j) d

-- allowed has, for each of the first n gaps, a one at each distance that the gap allows
abbrev pub Allows : List Gap → ℕ → List ℕ → Type 0
Allows gs n allowed = (j : ℕ) → j < n → slice_index allowed j ≡ block (low gs j) (high gs j - low gs j + 1)
