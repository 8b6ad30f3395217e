-- The laws of runs, marks, hits and traces: for every pattern P, and all readings xs and ys.
use Rattle.std.specs.Prelude.{◌≡◌, ℕ, suc, ◌+◌, ◌-◌, ◌^◌, ◌<◌, ◌≤◌, true, false, ◌≢◌, ◌⊎◌, ◌↔◌, List, ◌++◌, length, Decides, slice_index, slice_index_or, slice_set}
use Rattle.std.specs.List.{slice_get, ContainsAt as Has}
use Rattle.runs.specs.Gaps.{reach, window}
use Rattle.runs.specs.Bits.{bit}
use Rattle.runs.specs.Runs.{Pattern, last_slot, slots, place, fits_at, Near, Run, Mark, Hit, Trace, Earlier}
use Rattle.runs.specs.Words.{mark, word, words, hits, trace, Settled, reworked}

-- The stopping rule's count is n: of the places from p on, the n-th is the first settled one, or the last place.
pub record Counted (w p : ℕ) (former new : List ℕ) (n : ℕ) : Type 0 where
  pub some : (0 < n) × (p + n ≤ length new)
  pub unsettled : (q : ℕ) → p ≤ q → suc q < p + n → Settled w p former new q → ⊥
  pub end : Settled w p former new (p + n - 1) ⊎ (p + n ≡ length new)

module _ {R : Type 0} (P : Pattern R) where
  -- Mark 0 follows from the reading, mark j + 1 from the reading and an earlier mark j; and what is computed decides each mark.
  pub record Marks (xs : List R) : Type 0 where
    pub first : (p : ℕ) → Mark P xs 0 p ↔ (fits_at P xs 0 p ≡ true)
    pub next : (j p : ℕ) → Mark P xs (suc j) p ↔ ((fits_at P xs (suc j) p ≡ true) × ((q : ℕ) × Near P j q p × Mark P xs j q))
    pub computed : (j p : ℕ) → Decides (mark P xs j p) (Mark P xs j p)

  -- The word of place p tells exactly its marks, and has no bit above them.
  pub record Told (xs : List R) (p : ℕ) : Type 0 where
    pub marks : (j : ℕ) → j < slots P → Decides (bit (word P xs p) j) (Mark P xs j p)
    pub above : (j : ℕ) → slots P ≤ j → bit (word P xs p) j ≡ false
    pub below : word P xs p < 2 ^ slots P
    pub narrow : slots P ≤ 32 → word P xs p < 2 ^ 32
    pub listed : slice_index_or (words P xs) p 0 ≡ word P xs p

  -- The list of hits has every hit, nothing else, and rises.
  pub record Found (xs : List R) : Type 0 where
    pub all : (p : ℕ) → Hit P xs p ↔ Has (hits P xs) p
    pub rising : (i k : ℕ) → i < k → k < length (hits P xs) → slice_index (hits P xs) i < slice_index (hits P xs) k

  -- place k bears the same marks over both lists of readings
  abbrev pub Alike : List R → List R → ℕ → Type 0
  Alike xs ys k = (j : ℕ) → j < slots P → Mark P xs j k ↔ Mark P ys j k

  -- where readings xs become ys by a change at place p: q is settled, and the count
  abbrev pub Stops : List R → List R → ℕ → ℕ → Type 0
  Stops xs ys p q = Settled (window P.gaps) p (words P xs) (words P ys) q

  abbrev pub count : List R → List R → ℕ → ℕ
  count xs ys p = reworked (window P.gaps) p (words P xs) (words P ys)

  -- A change at p is felt neither before p nor from p plus the reach on. Past a settled place all words are the former ones, and a place is
  -- settled as soon as reach plus window places are reworked: the count is no larger, and past it all words are the former ones.
  pub record Felt (xs ys : List R) (p : ℕ) : Type 0 where
    pub before : (k : ℕ) → k < p → Alike xs ys k
    pub beyond : (k : ℕ) → p + reach P.gaps ≤ k → Alike xs ys k
    pub stop : (q : ℕ) → p ≤ q → Stops xs ys p q → (k : ℕ) → q < k → word P ys k ≡ word P xs k
    pub soon : (q : ℕ) → p + reach P.gaps + window P.gaps ≤ suc q → Stops xs ys p q
    pub few : p < length ys → count xs ys p ≤ reach P.gaps + window P.gaps
    pub rest : p < length ys → (k : ℕ) → p + count xs ys p ≤ k → word P ys k ≡ word P xs k

  -- A hit's trace is what is computed, and no other list is one. It is a run, and any other run to the hit has, going back, the earlier
  -- place at the first difference.
  pub record Traces (xs : List R) (p : ℕ) : Type 0 where
    pub computed : Hit P xs p → Trace P xs p (trace P xs p)
    pub only : (ps qs : List ℕ) → Trace P xs p ps → Trace P xs p qs → ps ≡ qs
    pub run : (ps : List ℕ) → Trace P xs p ps → Run P xs (slots P) ps
    pub best : (ps qs : List ℕ) → Trace P xs p ps → Run P xs (slots P) qs → place qs (last_slot P) ≡ p →
        (qs ≡ ps) ⊎ ((h : ℕ) × Earlier (last_slot P) qs ps h)

  -- Below the line both lists of readings have the same hits, with the same traces.
  pub record Final (xs ys : List R) (line : ℕ) : Type 0 where
    pub hits : (p : ℕ) → p < line → Hit P xs p ↔ Hit P ys p
    pub traces : (p : ℕ) → p < line → (ps : List ℕ) → Trace P xs p ps ↔ Trace P ys p ps

pub record Laws (R : Type 0) : Type 0 where
  pub marks : (P : Pattern R) (xs : List R) → Marks P xs
  pub told : (P : Pattern R) (xs : List R) (p : ℕ) → Told P xs p
  pub found : (P : Pattern R) (xs : List R) → Found P xs
  -- where the readings differ at p alone
  pub felt : (P : Pattern R) (xs ys : List R) (p : ℕ) → ((k : ℕ) → k ≢ p → slice_get xs k ≡ slice_get ys k) → Felt P xs ys p
  pub counted : (w p : ℕ) (former new : List ℕ) → p < length new → (n : ℕ) → (reworked w p former new ≡ n) ↔ Counted w p former new n
  pub traces : (P : Pattern R) (xs : List R) (p : ℕ) → Traces P xs p
  -- a run to p has no place below p + 1 - reach
  pub within : (P : Pattern R) (xs : List R) (p : ℕ) (ps : List ℕ) → Run P xs (slots P) ps → place ps (last_slot P) ≡ p →
      (h : ℕ) → h < slots P → suc p - reach P.gaps ≤ place ps h
  -- what lies below the first difference is final, so are the hits below an amended place, and all hits at an append
  pub final : (P : Pattern R) (xs ys : List R) (line : ℕ) → ((k : ℕ) → k < line → slice_get xs k ≡ slice_get ys k) → Final P xs ys line
  pub amended : (P : Pattern R) (xs : List R) (line p : ℕ) (v : R) → line ≤ p → Final P xs (slice_set xs p v) line
  pub appended : (P : Pattern R) (xs ys : List R) → Final P xs (xs ++ ys) (length xs)
