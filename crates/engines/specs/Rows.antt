-- The words of a strip, the last one first, as rows of w columns and several words each.
use Rattle.std.specs.Prelude.{◌≡◌, ℕ, ◌-◌, ◌*◌, ◌+◌, ◌/◌, ◌%◌, ◌^◌, ◌<◌, ◌≤◌, false, ◌≢◌, List, slice_index}
use Rattle.runs.specs.Bits.{bit}

-- how many columns a word has in a row, and how many rows there are
pub data Width : ℕ → Type 0 where
  narrow : Width 8
  wide : Width 32

-- the word of place c from the strip's end
abbrev pub word_at : List ℕ → ℕ → ℕ
word_at strip c = slice_index strip (63 - c)

-- row r has bits of every w-th word
abbrev pub Gathered : ℕ → List ℕ → ℕ → ℕ → Type 0
Gathered w strip r x = (c : ℕ) → c < 64 → bit x c ≡ bit (word_at strip (c / w * w + r)) (c % w)

-- the first n rows
abbrev pub Loaded : ℕ → List ℕ → ℕ → List ℕ → Type 0
Loaded w strip n rows = (r : ℕ) → r < n → Gathered w strip r (slice_index rows r)

-- every w-th word has w bits of x, and the others stay
pub record Spread (w r x : ℕ) (before strip : List ℕ) : Type 0 where
  pub row : (c : ℕ) → c < 64 → c % w ≡ r → word_at strip c ≡ x / 2 ^ (c / w * w) % 2 ^ w
  pub others : (c : ℕ) → c < 64 → c % w ≢ r → word_at strip c ≡ word_at before c

-- the words are those of the rows
pub record Unloaded (w : ℕ) (rows strip : List ℕ) : Type 0 where
  pub all : (c j : ℕ) → c < 64 → j < w → bit (word_at strip c) j ≡ bit (slice_index rows (c % w)) (c / w * w + j)
  pub high : (c j : ℕ) → c < 64 → w ≤ j → bit (word_at strip c) j ≡ false

-- the first n rows have no bits
abbrev pub Blank : List ℕ → ℕ → Type 0
Blank rows n = (r : ℕ) → r < n → slice_index rows r ≡ 0

-- column j has bit j of each of the words
abbrev pub Columns : ℕ → List ℕ → List ℕ → Type 0
Columns w strip columns = (j c : ℕ) → j < w → c < 64 → bit (slice_index columns j) c ≡ bit (word_at strip c) j
