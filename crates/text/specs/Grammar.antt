-- The grammar of marks and numbers: what stands in a text from place a up to place b.
use Rattle.std.specs.Prelude.{◌≡◌, ℕ, ◌+◌, ◌<◌, ◌≤◌, true, false, List, slice_index, slice_range}
use Rattle.text.specs.declared.mark.Mark.{Mark}
use Rattle.text.specs.Words.{is_digit}
use Rattle.text.specs.Numbers.{value_of}
use Rattle.text.specs.Marks.{is_mark}

-- the mark itself, one byte
pub record MarkText (m : Mark) (s : List ℕ) (a b : ℕ) : Type 0 where
  pub stands : is_mark m s a ≡ true
  pub behind : b ≡ a + 1

-- `7`, `007`: one digit or more, as far as digits go, worth v
pub record NumberText (s : List ℕ) (a b v : ℕ) : Type 0 where
  pub some : a < b
  pub digits : (k : ℕ) → a ≤ k → k < b → is_digit (slice_index s k) ≡ true
  pub stops : is_digit (slice_index s b) ≡ false
  pub value : value_of (slice_range s a b) ≡ v
