-- One word that holds a field of hi + 1 bits for each gap.
use Rattle.std.specs.Prelude.{◌≡◌, ℕ, zero, suc, ◌+◌, ◌-◌, ◌^◌, ◌<◌, ◌≤◌, List, bit_or, slice_index_or}
use Rattle.runs.specs.declared.gap.Gap.{Gap}
use Rattle.runs.specs.Gaps.{low, high}
use Rattle.runs.specs.Bits.{bit}
use Rattle.engines.specs.declared.layout.Field.{Field}
use Rattle.engines.specs.Blocks.{block}
use Rattle.engines.specs.Memory.{Memory}

-- where the field of gap j begins
abbrev pub offset : List Gap → ℕ → ℕ
offset gs zero = 0
offset gs (suc j) = offset gs j + (high gs j + 1)

-- what the word says: bit d of field j
abbrev pub fields_say : List Gap → ℕ → Memory
fields_say gs memory j d = bit memory (offset gs j + d)

-- every bit of the first n fields but the top bit of each
abbrev pub kept : List Gap → ℕ → ℕ
kept gs zero = 0
kept gs (suc j) = bit_or (kept gs j) (block (offset gs j) (high gs j))

-- what a layout has where it has nothing
abbrev pub no_field : Field
no_field = record { window = 0; start = 0 }

abbrev pub window_at : List Field → ℕ → ℕ
window_at fields j = (slice_index_or fields j no_field).window

abbrev pub start_at : List Field → ℕ → ℕ
start_at fields j = (slice_index_or fields j no_field).start

-- each of the first n slots has the first bit of its own field
abbrev pub Begun : List Gap → ℕ → List Field → Type 0
Begun gs n fields = (j : ℕ) → j < n → start_at fields j ≡ 2 ^ offset gs j

-- and none from the n-th on
abbrev pub Idle : ℕ → List Field → Type 0
Idle n fields = (j : ℕ) → n ≤ j → start_at fields j ≡ 0

-- the slot after each of the first n gaps has the bits of its field at the distances that the gap allows
abbrev pub Opened : List Gap → ℕ → List Field → Type 0
Opened gs n fields = (j : ℕ) → j < n → window_at fields (suc j) ≡ block (offset gs j + low gs j) (high gs j - low gs j + 1)
