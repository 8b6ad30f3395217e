-- Squares of bits turned about their diagonals.
use Rattle.std.specs.Prelude.{◌≡◌, ℕ, ◌+◌, ◌-◌, ◌*◌, ◌/◌, ◌%◌, ◌<◌, true, false, ◌≢◌, List, ◌==◌, slice_index}
use Rattle.runs.specs.Bits.{bit}

-- the columns of the mask in the lower row change places with those `by` further on in the upper row
pub record Swapped (upper lower by mask : ℕ) (from to : List ℕ) : Type 0 where
  pub below : (c : ℕ) → c < 64 → bit mask c ≡ true → bit (slice_index to lower) c ≡ bit (slice_index from upper) (by + c)
  pub below_same : (c : ℕ) → c < 64 → bit mask c ≡ false → bit (slice_index to lower) c ≡ bit (slice_index from lower) c
  pub above : (c : ℕ) → by + c < 64 → bit mask c ≡ true → bit (slice_index to upper) (by + c) ≡ bit (slice_index from lower) c
  pub above_same : (c : ℕ) → by + c < 64 → bit mask c ≡ false → bit (slice_index to upper) (by + c) ≡ bit (slice_index from upper) (by + c)
  pub start : (c : ℕ) → c < 64 → c < by → bit (slice_index to upper) c ≡ bit (slice_index from upper) c
  pub rest : (q : ℕ) → q ≢ upper → q ≢ lower → slice_index to q ≡ slice_index from q

-- the stages of the squares of 32 rows and of 8: the distance of a swap
pub data Stage : ℕ → ℕ → Type 0 where
  wide_16 : Stage 32 16
  wide_8 : Stage 32 8
  wide_4 : Stage 32 4
  wide_2 : Stage 32 2
  wide_1 : Stage 32 1
  narrow_4 : Stage 8 4
  narrow_2 : Stage 8 2
  narrow_1 : Stage 8 1

-- the mask of the columns whose number has no digit of weight `by`
abbrev pub MaskOf : ℕ → ℕ → Type 0
MaskOf by mask = (c : ℕ) → c < 64 → bit mask c ≡ (c / by % 2 == 0)

-- row and column with their digits of weight `by` exchanged
abbrev pub row_of : ℕ → ℕ → ℕ → ℕ
row_of by r c = r - r / by % 2 * by + c / by % 2 * by

abbrev pub column_of : ℕ → ℕ → ℕ → ℕ
column_of by r c = c - c / by % 2 * by + r / by % 2 * by

-- what a stage does to its n rows
pub record Exchanged (n by : ℕ) (from to : List ℕ) : Type 0 where
  pub all : (r c : ℕ) → r < n → c < 64 → bit (slice_index to r) c ≡ bit (slice_index from (row_of by r c)) (column_of by r c)

-- each square of n columns turned
pub record Turned (n : ℕ) (from to : List ℕ) : Type 0 where
  pub all : (r c : ℕ) → r < n → c < 64 → bit (slice_index to r) c ≡ bit (slice_index from (c % n)) (c / n * n + r)
