-- Worked sheets: small signatures over a few readings, with their words, hits, traces and counts.
use Rattle.std.specs.Prelude.{◌≡◌, ℕ, List, [], ◌∷◌, length, ℤ, pos, ◌-ℤ◌, nat_eq, nat_le, slice_index, slice_index_or, slice_set, unsigned_abs}
use Rattle.runs.specs.declared.gap.Gap.{Gap}
use Rattle.runs.specs.Gaps.{reach, window}
use Rattle.runs.specs.Runs.{Pattern}
use Rattle.runs.specs.Words.{some, words, hits, trace, reworked}

-- lo to hi places between two slots
abbrev pub gap : ℕ → ℕ → Gap
gap lo hi = record { lo = lo; hi = hi }

-- slots of events: a list of events for each slot
abbrev pub events : List (List ℕ) → List Gap → Pattern ℕ
events slots gaps = record { sets = λ h x. some (λ i. nat_eq x (slice_index (slice_index_or slots h []) i)) (length (slice_index_or slots h [])); gaps = gaps }

-- target~tolerance, one slot: the currents that differ from the target by the tolerance at most
abbrev pub current : ℕ → ℕ → Pattern ℤ
current target tolerance = record { sets = λ _ x. nat_le (unsigned_abs (x -ℤ pos target)) tolerance; gaps = [] }

-- 10-x(0,2)-[20 21]
abbrev pub pair : Pattern ℕ
pair = events ((10 ∷ []) ∷ (20 ∷ 21 ∷ []) ∷ []) (gap 0 2 ∷ [])

abbrev six : List ℕ
six = 10 ∷ 20 ∷ 5 ∷ 21 ∷ 10 ∷ 21 ∷ []

-- the words where reading p of the six becomes v, and the stopping rule's count
abbrev amended : ℕ → ℕ → List ℕ × ℕ
amended p v = let new = words pair (slice_set six p v) in (new, reworked (window pair.gaps) p (words pair six) new)

-- 1-2-x(0,3)-3
abbrev pub triple : Pattern ℕ
triple = events ((1 ∷ []) ∷ (2 ∷ []) ∷ (3 ∷ []) ∷ []) (gap 0 0 ∷ gap 0 3 ∷ [])

-- 1-x(2,3)-2
abbrev pub apart : Pattern ℕ
apart = events ((1 ∷ []) ∷ (2 ∷ []) ∷ []) (gap 2 3 ∷ [])

-- 5-5
abbrev pub twice : Pattern ℕ
twice = events ((5 ∷ []) ∷ (5 ∷ []) ∷ []) (gap 0 0 ∷ [])

pub record Sheets : Type 0 where
  pub six_words : (words pair six ≡ 1 ∷ 2 ∷ 0 ∷ 2 ∷ 1 ∷ 2 ∷ []) × (reach pair.gaps ≡ 4) × (window pair.gaps ≡ 3)
  pub amended_first : amended 0 5 ≡ (0 ∷ 0 ∷ 0 ∷ 0 ∷ 1 ∷ 2 ∷ [], 6)
  pub amended_idle : amended 2 7 ≡ (words pair six, 1)
  -- The 2 at place 3 fits slot 1 with no 1 right before it. To forget slot 1's end at place 1 for that loses the hit, and to trace back to the
  -- nearest reading that fits gives place 3.
  pub end_kept : (words triple (1 ∷ 2 ∷ 9 ∷ 2 ∷ 3 ∷ []) ≡ 1 ∷ 2 ∷ 0 ∷ 0 ∷ 4 ∷ []) ×
      (trace triple (1 ∷ 2 ∷ 9 ∷ 2 ∷ 3 ∷ []) 4 ≡ 0 ∷ 1 ∷ 4 ∷ [])
  -- The 1 at place 2 is too near the 2. To keep only the latest end of each slot loses the hit.
  pub older_end : (words apart (1 ∷ 9 ∷ 1 ∷ 2 ∷ []) ≡ 1 ∷ 0 ∷ 1 ∷ 2 ∷ []) × (trace apart (1 ∷ 9 ∷ 1 ∷ 2 ∷ []) 3 ≡ 0 ∷ 3 ∷ [])
  pub too_near : words apart (1 ∷ 9 ∷ 2 ∷ []) ≡ 1 ∷ 0 ∷ 0 ∷ []
  pub too_far : (hits apart (1 ∷ 9 ∷ 9 ∷ 9 ∷ 9 ∷ 2 ∷ []) ≡ []) × (hits apart (1 ∷ 9 ∷ 9 ∷ 9 ∷ 2 ∷ []) ≡ 4 ∷ [])
  -- one reading may fit several slots
  pub both_slots : words twice (5 ∷ 5 ∷ 5 ∷ []) ≡ 1 ∷ 3 ∷ 3 ∷ []
  -- 100~5
  pub currents : words (current 100 5) (pos 94 ∷ pos 95 ∷ pos 105 ∷ pos 106 ∷ []) ≡ 0 ∷ 1 ∷ 1 ∷ 0 ∷ []
