-- Marks, words, hits and traces as they are computed, and how many places a change makes one rework.
use Rattle.std.specs.Prelude.{◌≡◌, ℕ, zero, suc, ◌+◌, ◌-◌, ◌*◌, ◌<◌, ◌≤◌, min, Bool, true, false, cond, not, ◌&&◌, ◌||◌, List, [], ◌∷◌, ◌++◌, map, length, filter, nat_eq, nat_le, nat_lt, slice_index}
use Rattle.std.specs.List.{range_with_len, prefix_len}
use Rattle.runs.specs.declared.gap.Gap.{Gap}
use Rattle.runs.specs.Gaps.{low, high}
use Rattle.runs.specs.Runs.{Pattern, last_slot, slots, fits_at}

-- the test passes at some number below n; and at every one
abbrev pub some : (ℕ → Bool) → ℕ → Bool
some test zero = false
some test (suc n) = test n || some test n

abbrev pub every : (ℕ → Bool) → ℕ → Bool
every test zero = true
every test (suc n) = test n && every test n

-- the last number below n at which the test passes, or 0
abbrev pub last : (ℕ → Bool) → ℕ → ℕ
last test zero = 0
last test (suc n) = cond (test n) n (last test n)

-- the number whose bit j is `test j`, for each j below n
abbrev pub bits : (ℕ → Bool) → ℕ → ℕ
bits test zero = 0
bits test (suc n) = cond (test 0) 1 0 + 2 * bits (λ j. test (suc j)) n

-- whether q comes before p, with as many places strictly between as gap h allows
abbrev pub near : List Gap → ℕ → ℕ → ℕ → Bool
near gs h q p = nat_lt q p && (nat_le (low gs h) (p - suc q) && nat_le (p - suc q) (high gs h))

-- the latest place before p, within gap j, that bears mark j, where `marks j q` says whether place q does
unfoldable pub before : List Gap → (ℕ → ℕ → Bool) → ℕ → ℕ → ℕ
before gs marks j p = last (λ q. near gs j q p && marks j q) p

-- the places of the slots 0 .. j, back from p
abbrev pub trace_to : List Gap → (ℕ → ℕ → Bool) → ℕ → ℕ → List ℕ
trace_to gs marks zero p = p ∷ []
trace_to gs marks (suc j) p = trace_to gs marks j (before gs marks j p) ++ (p ∷ [])

module _ {R : Type 0} (P : Pattern R) where
  -- whether place p bears mark j
  unfoldable pub mark : List R → ℕ → ℕ → Bool
  mark xs zero p = fits_at P xs 0 p
  mark xs (suc j) p = fits_at P xs (suc j) p && some (λ q. near P.gaps j q p && mark xs j q) p

  -- the mark word of place p: bit j says whether it bears mark j, and there are no further bits
  unfoldable pub word : List R → ℕ → ℕ
  word xs p = bits (λ j. mark xs j p) (slots P)

  -- the word of each place, and the places of the hits, lowest first
  abbrev pub words : List R → List ℕ
  words xs = map (word xs) (range_with_len 0 (length xs))

  abbrev pub hits : List R → List ℕ
  hits xs = filter (mark xs (last_slot P)) (range_with_len 0 (length xs))

  -- the trace of the hit at p
  unfoldable pub trace : List R → ℕ → List ℕ
  trace xs p = trace_to P.gaps (mark xs) (last_slot P) p

-- With window w, after a change at place p: each place from max(p, q - w + 1) up to q bears its former word. Then q is settled.
abbrev pub Settled : ℕ → ℕ → List ℕ → List ℕ → ℕ → Type 0
Settled w p former new q = (k : ℕ) → p ≤ k → k ≤ q → q < k + w → slice_index new k ≡ slice_index former k

abbrev pub settled : ℕ → ℕ → List ℕ → List ℕ → ℕ → Bool
settled w p former new q = every (λ d. nat_eq (slice_index new (q - d)) (slice_index former (q - d))) (min w (suc (q - p)))

-- The stopping rule's count, of the places to rework from p on: all before the first settled one, and that one; or all, where none is.
unfoldable pub reworked : ℕ → ℕ → List ℕ → List ℕ → ℕ
reworked w p former new = suc (prefix_len (λ q. not (settled w p former new q)) (range_with_len p (length new - suc p)))
