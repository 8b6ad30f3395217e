-- What a run, a mark, a hit and a trace are. Places and slots count from 0.
use Rattle.std.specs.Prelude.{◌≡◌, ℕ, suc, ◌-◌, ◌<◌, ◌≤◌, Bool, true, false, List, length, Some, None, Option, slice_index}
use Rattle.std.specs.List.{slice_get}
use Rattle.runs.specs.declared.gap.Gap.{Gap}
use Rattle.runs.specs.Gaps.{low, high}

-- A pattern is a signature over readings of type R: the set of each slot's readings, and gap j between slot j and slot j + 1.
pub record Pattern (R : Type 0) : Type 0 where
  pub sets : ℕ → R → Bool
  pub gaps : List Gap

-- the reading is in the set; where there is no reading, none is
abbrev pub among : {R : Type 0} → (R → Bool) → Option R → Bool
among set None = false
among set (Some x) = set x

-- the place of slot h in a list of places
abbrev pub place : List ℕ → ℕ → ℕ
place ps h = slice_index ps h

module _ {R : Type 0} (P : Pattern R) where
  -- the last slot, and how many slots there are: one more than gaps
  abbrev pub last_slot : ℕ
  last_slot = length P.gaps

  abbrev pub slots : ℕ
  slots = suc last_slot

  -- the reading at place p fits slot h
  abbrev pub fits_at : List R → ℕ → ℕ → Bool
  fits_at xs h p = among (P.sets h) (slice_get xs p)

  -- q comes before p, and strictly between them lie at least lo and at most hi places, by gap h
  abbrev pub Near : ℕ → ℕ → ℕ → Type 0
  Near h q p = (q < p) × (low P.gaps h ≤ p - suc q) × (p - suc q ≤ high P.gaps h)

  -- A run of the first k slots: k places, each with a reading that fits its slot, and neighbours as their gap allows (so they rise).
  pub record Run (xs : List R) (k : ℕ) (ps : List ℕ) : Type 0 where
    pub long : length ps ≡ k
    pub fit : (h : ℕ) → h < k → fits_at xs h (place ps h) ≡ true
    pub gap : (h : ℕ) → suc h < k → Near h (place ps h) (place ps (suc h))

  -- Place p bears mark j: a run of the first j + 1 slots ends there.
  abbrev pub Mark : List R → ℕ → ℕ → Type 0
  Mark xs j p = (ps : List ℕ) × Run xs (suc j) ps × (place ps j ≡ p)

  -- A hit is a place with the last slot's mark: a run of all slots ends there.
  abbrev pub Hit : List R → ℕ → Type 0
  Hit xs p = Mark xs last_slot p

  -- q is the latest place before p, within gap h, that bears mark h
  pub record Latest (xs : List R) (h p q : ℕ) : Type 0 where
    pub near : Near h q p
    pub marked : Mark xs h q
    pub latest : (k : ℕ) → Near h k p → Mark xs h k → k ≤ q

  -- The trace of the hit at p: a place for each slot, the hit last; going back from it, each earlier place is the latest one.
  pub record Trace (xs : List R) (p : ℕ) (ps : List ℕ) : Type 0 where
    pub hit : Hit xs p
    pub long : length ps ≡ slots
    pub end : place ps last_slot ≡ p
    pub back : (h : ℕ) → h < last_slot → Latest xs h (place ps (suc h)) (place ps h)

-- Compared from slot j back, the places qs and ps differ first at slot h, and there qs has the earlier place.
pub record Earlier (j : ℕ) (qs ps : List ℕ) (h : ℕ) : Type 0 where
  pub slot : h ≤ j
  pub less : place qs h < place ps h
  pub same : (i : ℕ) → h < i → i ≤ j → place qs i ≡ place ps i
