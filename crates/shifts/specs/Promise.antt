-- What is promised of a shift: a record with its buffers, from its opening on, and the answers of any list of calls.
use Rattle.std.specs.Prelude.{◌≡◌, ℕ, suc, ◌+◌, ◌-◌, ◌<◌, ◌≤◌, true, false, ◌⊎◌, ◌↔◌, List, [], ◌∷◌, ◌++◌, length, take, drop, Some, Ok, Err, Decides, Option, MatchOption, slice_index}
use Rattle.std.specs.List.{slice_get, ContainsAt as Has}
use Rattle.text.specs.declared.refusal.Refusal.{Refusal}
use Rattle.text.specs.declared.refusal.Refusal.TheVariants.{Full, NoPlace, Settled, LineAbove, LineBack, NoHit, ShortList, OtherBuffers}
use Rattle.runs.specs.Bits.{bit}
use Rattle.runs.specs.Gaps.{high, reach, window}
use Rattle.runs.specs.Runs.{Pattern, slots, Mark, Hit, Trace}
use Rattle.runs.specs.Laws.{Counted, Final}
use Rattle.records.specs.declared.call.Call.{Call}
use Rattle.records.specs.declared.call.Call.TheVariants.{Append, Amend, Settle, Word, NextHit, NextFinalHit, Trace as TraceOf, FinalHits, Close}
use Rattle.records.specs.declared.call.Reply.{Reply}
use Rattle.records.specs.declared.call.Reply.TheVariants.{Placed, Reworked, Line, Word as Bears, Hit as HitAt, Traced, Named, Closed, NotTaken}
use Rattle.records.specs.States.{Meaning, Terms, State, pattern_by}
use Rattle.records.specs.Books.{Book, Answer, takes, lends, overlaid}
use Rattle.shifts.specs.Stands.{answered}
use Rattle.shifts.specs.Made.{Made, book_at}

module _ {R : Type 0} (P : Pattern R) where
  -- the word tells exactly the marks of place k: where a run of the first j + 1 slots ends there
  pub record Tells (xs : List R) (k w : ℕ) : Type 0 where
    pub marks : (j : ℕ) → j < slots P → Decides (bit w j) (Mark P xs j k)
    pub above : (j : ℕ) → slots P ≤ j → bit w j ≡ false

  -- the first hit from p on, below `end`; or that there is none
  abbrev pub First : List R → ℕ → ℕ → Option ℕ → Type 0
  First xs p end o = MatchOption o
      ((k : ℕ) → p ≤ k → k < end → Hit P xs k → ⊥)
      (λ q. (p ≤ q) × (q < end) × Hit P xs q × ((k : ℕ) → p ≤ k → k < q → Hit P xs k → ⊥))

  -- the hits below the line, each once, lowest first
  pub record Names (xs : List R) (line : ℕ) (hs : List ℕ) : Type 0 where
    pub all : (p : ℕ) → Has hs p ↔ ((p < line) × Hit P xs p)
    pub rising : (i k : ℕ) → i < k → k < length hs → slice_index hs i < slice_index hs k

module _ {G E R : Type 0} (M : Meaning G E R) (T : Terms G) where
  abbrev P : Pattern R
  P = pattern_by M T

  -- The record and its buffers as the book has them. The readings buffer begins with the book's readings; each word of the sheet tells its
  -- place's marks in these readings; and the engine remembers the same of the latest places.
  pub record Stands (b : Book R) (s : State G E R) : Type 0 where
    pub stage : s.stage ≡ b.stage
    pub gauge : s.gauge ≡ T.gauge
    pub signature : s.signature ≡ T.signature
    pub shape : M.shape s.engine ≡ T.signature
    pub count : s.count ≡ length b.readings
    pub line : s.line ≡ b.line
    pub order : (b.line ≤ length b.readings) × (length b.readings ≤ T.room)
    pub lengths : (length s.readings ≡ T.room) × (length s.sheet ≡ T.room)
    pub held : take (length b.readings) s.readings ≡ b.readings
    pub written : (k : ℕ) → k < length b.readings → Tells P b.readings k (slice_index s.sheet k)
    pub recalled : (j d : ℕ) → suc j < slots P → d ≤ high P.gaps j
        → Decides (M.says s.engine j d) ((d < length b.readings) × Mark P b.readings j (length b.readings - suc d))

  -- the conditions of each refusal, for a list with room for so many places
  abbrev pub Denies : Book R → ℕ → Call R → Refusal → Type 0
  Denies b room (Append x) e = (length b.readings ≡ T.room) × (e ≡ Full (length b.readings))
  Denies b room (Amend p x) e = ((length b.readings ≤ p) × (e ≡ NoPlace p)) ⊎ ((p < length b.readings) × (p < b.line) × (e ≡ Settled p))
  Denies b room (Settle n) e = ((length b.readings < n) × (e ≡ LineAbove n)) ⊎ ((n ≤ length b.readings) × (n < b.line) × (e ≡ LineBack n))
  Denies b room (Word p) e = (length b.readings ≤ p) × (e ≡ NoPlace p)
  Denies b room (NextHit p) e = ⊥
  Denies b room (NextFinalHit p) e = ⊥
  Denies b room (TraceOf p) e =
      ((length b.readings ≤ p) × (e ≡ NoPlace p))
      ⊎ (((p < length b.readings) × (Hit P b.readings p → ⊥) × (e ≡ NoHit p)) ⊎ (Hit P b.readings p × (room < slots P) × (e ≡ ShortList p)))
  Denies b room FinalHits e = ⊥
  Denies b room Close e = ⊥

  -- buffers of another length are refused before anything else
  abbrev pub Refuses : Book R → Made R → Refusal → Type 0
  Refuses b m e =
      ((lends m.call ≡ true) × (m.lent < T.room) × (e ≡ OtherBuffers (length b.readings)))
      ⊎ ((lends m.call ≡ true → T.room ≤ m.lent) × Denies b (length m.list) m.call e)

  -- An amendment at p alters no mark before p, and none from p plus the reach on. It answers the stopping rule's count, which is at most reach
  -- plus window.
  pub record Mends (b : Book R) (p n : ℕ) (s t : State G E R) : Type 0 where
    pub within : (b.line ≤ p) × (p < length b.readings)
    pub before : (k : ℕ) → k < p → slice_index t.sheet k ≡ slice_index s.sheet k
    pub beyond : (k : ℕ) → k < length b.readings → p + reach P.gaps ≤ k → slice_index t.sheet k ≡ slice_index s.sheet k
    pub counted : Counted (window P.gaps) p (take (length b.readings) s.sheet) (take (length b.readings) t.sheet) n
    pub few : n ≤ reach P.gaps + window P.gaps

  -- what a call answers that is taken and not refused, and what its list then holds
  abbrev pub Says : Book R → List ℕ → Call R → Reply → List ℕ → State G E R → State G E R → Type 0
  Says b list (Append x) r list' s t = (w : ℕ) × (r ≡ Placed (record { place = length b.readings; word = w })) × Tells P (b.readings ++ x ∷ []) (length b.readings) w × (list' ≡ list)
  Says b list (Amend p x) r list' s t = (n : ℕ) × (r ≡ Reworked n) × Mends b p n s t × (list' ≡ list)
  Says b list (Settle n) r list' s t = (r ≡ Line n) × (list' ≡ list)
  Says b list (Word p) r list' s t = (w : ℕ) × (r ≡ Bears w) × Tells P b.readings p w × (list' ≡ list)
  Says b list (NextHit p) r list' s t = (o : Option ℕ) × (r ≡ HitAt o) × First P b.readings p (length b.readings) o × (list' ≡ list)
  Says b list (NextFinalHit p) r list' s t = (o : Option ℕ) × (r ≡ HitAt o) × First P b.readings p b.line o × (list' ≡ list)
  Says b list (TraceOf p) r list' s t = (r ≡ Traced) × ((ps : List ℕ) × Trace P b.readings p ps × (list' ≡ ps ++ drop (slots P) list))
  Says b list FinalHits r list' s t = (hs : List ℕ) × Names P b.readings b.line hs × (r ≡ Named (length hs)) × (list' ≡ overlaid hs list)
  Says b list Close r list' s t = (r ≡ Closed) × (list' ≡ list)

  -- a call from s to t, by the book before it
  pub record Answers (b : Book R) (m : Made R) (a : Answer) (s t : State G E R) : Type 0 where
    -- a closed record takes questions alone: any other call is not taken and alters nothing
    pub untaken : takes b.stage m.call ≡ false → (a ≡ answered (Ok NotTaken) m.list) × (t ≡ s)
    -- a refusal comes exactly under its conditions, and alters nothing
    pub refused : takes b.stage m.call ≡ true → (e : Refusal) → (a.reply ≡ Err e) ↔ Refuses b m e
    pub left : (e : Refusal) → a.reply ≡ Err e → (a.list ≡ m.list) × (t ≡ s)
    pub said : takes b.stage m.call ≡ true → (r : Reply) → a.reply ≡ Ok r → Says b m.list m.call r a.list s t

  -- For a list of calls with their answers, and the state after each of the calls:
  pub record Promise (ms : List (Made R)) (answers : List Answer) (states : ℕ → State G E R) : Type 0 where
    pub each : length answers ≡ length ms
    -- after i calls the record and its buffers are as the book has them
    pub stands : (i : ℕ) → i ≤ length ms → Stands (book_at (pattern_by M T) T.room ms i) (states i)
    -- and behind the readings the buffers are as they were at the opening
    pub behind : (i : ℕ) → i ≤ length ms → let n = length (book_at (pattern_by M T) T.room ms i).readings in
        (drop n (states i).readings ≡ drop n (states 0).readings) × (drop n (states i).sheet ≡ drop n (states 0).sheet)
    -- each call is answered by the book before it
    pub right : (i : ℕ) (m : Made R) (a : Answer) → slice_get ms i ≡ Some m → slice_get answers i ≡ Some a → Answers (book_at (pattern_by M T) T.room ms i) m a (states i) (states (suc i))
    -- hits below the line, and so all final hits that were named, are hits ever after, with the same traces
    pub final : (i j : ℕ) → i ≤ j → Final P (book_at (pattern_by M T) T.room ms i).readings (book_at (pattern_by M T) T.room ms j).readings (book_at (pattern_by M T) T.room ms i).line
