-- The marks of a strip: one number for each slot.
use Rattle.std.specs.Prelude.{◌≡◌, ℕ, suc, ◌<◌, ◌≤◌, true, List, slice_index, slice_index_or}
use Rattle.runs.specs.declared.signature.Signature.{Signature}
use Rattle.runs.specs.Gaps.{low, high}
use Rattle.runs.specs.Signatures.{gaps_of}
use Rattle.runs.specs.Bits.{bit}
use Rattle.engines.specs.Windows.{Reached, Tells}

module _ (s : Signature) where
  -- place i of the strip fits slot j + 1, and slot j is marked at a distance that gap j allows
  abbrev pub Goes : List ℕ → List ℕ → List ℕ → ℕ → ℕ → Type 0
  Goes masks fits marks j i =
      (bit (slice_index fits (suc j)) i ≡ true) × Reached (low (gaps_of s) j) (high (gaps_of s) j) (slice_index masks j) (slice_index marks j) i

  -- the marks of each slot, after the masks of the places before the strip, and none in the other columns below `width`
  pub record Marked (width : ℕ) (masks fits marks : List ℕ) : Type 0 where
    pub first : slice_index_or marks 0 0 ≡ slice_index fits 0
    pub later : (j : ℕ) → suc j < s.slots → Tells (Goes masks fits marks j) (slice_index marks (suc j))
    pub none : (j : ℕ) → s.slots ≤ suc j → suc j < width → slice_index marks (suc j) ≡ 0

  -- the masks are those of the strip's places
  abbrev pub Kept : List ℕ → List ℕ → Type 0
  Kept marks after = (j : ℕ) → suc j < s.slots → slice_index after j ≡ slice_index marks j
