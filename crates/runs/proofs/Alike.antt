-- Patterns whose slots have the same sets have the same marks, words, hits and traces.
use Rattle.std.proofs.Common.{◌≡◌, ℕ, zero, suc, ◌≤◌, Bool, ◌&&◌, List, [], ◌∷◌, map, length, Some, None, Option, refl, ap, arith}
use Rattle.std.specs.List.{slice_get, range_with_len}
use Rattle.runs.specs.declared.gap.Gap.{Gap}
use Rattle.runs.specs.Runs.{Pattern, among}
use Rattle.runs.specs.Words.{near, mark, word, words, hits, trace}
use Rattle.runs.proofs.Below.{kept_same}
use Rattle.runs.proofs.Next.{some_same}
use Rattle.runs.proofs.Places.{trace_to_same}
use Rattle.runs.proofs.Worded.{bits_same}

module _ {R : Type 0} (f g : ℕ → R → Bool) (gs : List Gap) (same : (j : ℕ) → j ≤ length gs → (x : R) → f j x ≡ g j x) (xs : List R) where
  abbrev P : Pattern R
  P = record { sets = f; gaps = gs }

  abbrev Q : Pattern R
  Q = record { sets = g; gaps = gs }

  among_same : (j : ℕ) → j ≤ length gs → (x : Option R) → among (f j) x ≡ among (g j) x
  among_same j l None = refl
  among_same j l (Some x) = same j l x

  pub mark_alike : (j p : ℕ) → j ≤ length gs → mark P xs j p ≡ mark Q xs j p
  unfolding mark
  mark_alike zero p l = among_same 0 l (slice_get xs p)
  mark_alike (suc j) p l = rw (among_same (suc j) l (slice_get xs p)) (ap (λ b. among (g (suc j)) (slice_get xs p) && b) (some_same _ _ p (λ q. ap (λ b. near gs j q p && b) (mark_alike j q (omega arith)))))

  pub word_alike : (p : ℕ) → word P xs p ≡ word Q xs p
  unfolding word
  word_alike p = bits_same (λ j. mark P xs j p) (λ j. mark Q xs j p) (suc (length gs)) (λ j l. mark_alike j p (omega arith))

  map_alike : (ks : List ℕ) → map (word P xs) ks ≡ map (word Q xs) ks
  map_alike [] = refl
  map_alike (k ∷ ks) = rw (word_alike k, map_alike ks) refl

  pub words_alike : words P xs ≡ words Q xs
  words_alike = map_alike (range_with_len 0 (length xs))

  pub hits_alike : hits P xs ≡ hits Q xs
  hits_alike = kept_same (mark P xs (length gs)) (mark Q xs (length gs)) 0 (length xs) (λ k _ _. mark_alike (length gs) k (omega arith))

  pub trace_alike : (p : ℕ) → trace P xs p ≡ trace Q xs p
  unfolding trace
  trace_alike p = trace_to_same gs (mark P xs) (mark Q xs) (length gs) p (λ i q a _. mark_alike i q (omega arith))
