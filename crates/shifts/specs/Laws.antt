-- The promise leaves nothing open.
use Rattle.std.specs.Prelude.{◌≡◌, ℕ, ◌≤◌, List, length, take}
use Rattle.runs.specs.Runs.{Pattern}
use Rattle.records.specs.States.{Meaning, Terms, State, pattern_by}
use Rattle.records.specs.Books.{Answer}
use Rattle.shifts.specs.Made.{Made, book_at}
use Rattle.shifts.specs.Promise.{Promise}

-- the buffers have the same content where the book says that they are written
pub record SameContent {G H E F R : Type 0} (n : ℕ) (s : State G E R) (t : State H F R) : Type 0 where
  pub readings : take n s.readings ≡ take n t.readings
  pub sheet : take n s.sheet ≡ take n t.sheet

-- Two outcomes that keep the promise for the same signature, sets, length of the buffers and calls, whatever their gauges and engines, have the same
-- answers, and the same content in both buffers after each call; and where they began with the same buffers, the buffers are the same throughout.
pub record SameOutcome {G H E F R : Type 0} (P : Pattern R) (space : ℕ) (ms : List (Made R)) (said said' : List Answer) (states : ℕ → State G E R) (states' : ℕ → State H F R) : Type 0 where
  pub answers : said ≡ said'
  pub content : (i : ℕ) → i ≤ length ms → SameContent (length (book_at P space ms i).readings) (states i) (states' i)
  pub whole : (states 0).readings ≡ (states' 0).readings → (states 0).sheet ≡ (states' 0).sheet
      → (i : ℕ) → i ≤ length ms → ((states i).readings ≡ (states' i).readings) × ((states i).sheet ≡ (states' i).sheet)

abbrev pub Determined : (G H E F R : Type 0) → Type 0
Determined G H E F R = (M : Meaning G E R) (T : Terms G) (N : Meaning H F R) (U : Terms H) → pattern_by M T ≡ pattern_by N U → T.room ≡ U.room
    → (ms : List (Made R)) (said said' : List Answer) (states : ℕ → State G E R) (states' : ℕ → State H F R)
    → Promise M T ms said states → Promise N U ms said' states' → SameOutcome (pattern_by M T) T.room ms said said' states states'
