-- The hits as a list of places.
use Rattle.std.proofs.Common.{◌≡◌, ℕ, zero, suc, ◌+◌, ◌<◌, ◌≤◌, Bool, true, false, cond, ◌⊎◌, List, [], ◌∷◌, ◌++◌, length, get_or, filter, refl, ap, ◌∙◌, inl, inr, add-one, arith}
use Rattle.std.specs.List.{range_with_len, ContainsAt as Has, AllByRecursion as All}
use Rattle.std.proofs.lemmas.Bool.{cases_lt, both_ways}
use Rattle.std.proofs.lemmas.List.Elements.{filter-append}
use Rattle.std.proofs.ByRecursion.{All-get_or, all-has, All-weaker}
use Rattle.std.proofs.lemmas.Option.{slice_get_past}
use Rattle.runs.specs.Runs.{Pattern, last_slot, Hit}
use Rattle.runs.specs.Words.{mark, hits}
use Rattle.runs.specs.Laws.{Found}
use Rattle.runs.proofs.Steps.{at_low}
use Rattle.runs.proofs.Marked.{mark_decides}
use Rattle.runs.proofs.Worded.{mark_none}

has_cons : (xs : List ℕ) (y x : ℕ) → Has xs x → Has (y ∷ xs) x
has_cons xs y x (k, l, is) = (suc k, omega arith, is)

counting_push : (a n p : ℕ) → a + n ≡ p → range_with_len a (suc n) ≡ range_with_len a n ++ p ∷ []
counting_push a zero p is = let same : a ≡ p = omega arith in ap (λ x. x ∷ []) same
counting_push a (suc n) p is = ap (λ xs. a ∷ xs) (counting_push (a + 1) n p (omega arith))

-- the numbers a .. a + n - 1 that pass the test
module _ (f : ℕ → Bool) where
  abbrev pub Passes : ℕ → ℕ → ℕ → Type 0
  Passes a n p = (a ≤ p) × (p < a + n) × (f p ≡ true)

  pub all_kept : (a n : ℕ) → All (Passes a n) (filter f (range_with_len a n))
  all_kept a zero = tt
  all_kept a (suc n) = go (f a) refl (All-weaker (Passes (a + 1) n) (Passes a (suc n)) (λ p h. (omega arith, omega arith, h.2)) (filter f (range_with_len (a + 1) n)) (all_kept (a + 1) n))
    where
      go : (b : Bool) → f a ≡ b → All (Passes a (suc n)) (filter f (range_with_len (a + 1) n)) →
          All (Passes a (suc n)) (cond b (a ∷ filter f (range_with_len (a + 1) n)) (filter f (range_with_len (a + 1) n)))
      go true e rest = ((omega arith, omega arith, e), rest)
      go false e rest = rest

  pub has_kept : (a n p : ℕ) → Passes a n p → Has (filter f (range_with_len a n)) p
  has_kept a zero p h = absurd (omega arith)
  has_kept a (suc n) p h = go (f a) refl (λ l. has_kept (a + 1) n p (omega arith, omega arith, h.2))
    where
      go : (b : Bool) → f a ≡ b → (a < p → Has (filter f (range_with_len (a + 1) n)) p) → Has (cond b (a ∷ filter f (range_with_len (a + 1) n)) (filter f (range_with_len (a + 1) n))) p
      go true e rest = at_low a p h.0 (λ x. Has (a ∷ filter f (range_with_len (a + 1) n)) x) (0, omega arith, λ d. refl) (λ l. has_cons (filter f (range_with_len (a + 1) n)) a p (rest l))
      go false e rest = rest (at_low a p h.0 (λ x. f x ≡ true → a < p) (λ t. absurd (both_ways (f a) e t)) (λ l _. l) h.2)

  pub rising : (a n i k : ℕ) → i < k → k < length (filter f (range_with_len a n)) → get_or (filter f (range_with_len a n)) i 0 < get_or (filter f (range_with_len a n)) k 0
  rising a zero i k l b = absurd (omega arith)
  rising a (suc n) i k l b = go (f a) i k l b (rising (a + 1) n)
    where
      go : (c : Bool) (i k : ℕ) → i < k → k < length (cond c (a ∷ filter f (range_with_len (a + 1) n)) (filter f (range_with_len (a + 1) n))) →
          ((i k : ℕ) → i < k → k < length (filter f (range_with_len (a + 1) n)) → get_or (filter f (range_with_len (a + 1) n)) i 0 < get_or (filter f (range_with_len (a + 1) n)) k 0) →
          get_or (cond c (a ∷ filter f (range_with_len (a + 1) n)) (filter f (range_with_len (a + 1) n))) i 0 < get_or (cond c (a ∷ filter f (range_with_len (a + 1) n)) (filter f (range_with_len (a + 1) n))) k 0
      go true i zero l b rest = absurd (omega arith)
      go true zero (suc k) l b rest = omega (arith, (All-get_or (Passes (a + 1) n) (filter f (range_with_len (a + 1) n)) k 0 (omega arith) (all_kept (a + 1) n)).0)
      go true (suc i) (suc k) l b rest = rest i k (omega arith) (omega arith)
      go false i k l b rest = rest i k l b

  -- one number more
  pub kept_more : (a n p : ℕ) → a + n ≡ p → filter f (range_with_len a (n + 1)) ≡ filter f (range_with_len a n) ++ cond (f p) (p ∷ []) []
  kept_more a n p is = ap (filter f) (ap (range_with_len a) (add-one n) ∙ counting_push a n p is) ∙ filter-append f (range_with_len a n) (p ∷ [])

module _ {R : Type 0} (P : Pattern R) where
  -- a hit lies within the readings
  pub hit_within : (xs : List R) (p : ℕ) → Hit P xs p → p < length xs
  hit_within xs p m = go (cases_lt p (length xs))
    where
      go : (p < length xs) ⊎ (length xs ≤ p) → p < length xs
      go (inl l) = l
      go (inr l) = absurd (both_ways (mark P xs (last_slot P) p) (mark_none P xs (last_slot P) p (slice_get_past xs p l)) ((mark_decides P xs (last_slot P) p).1 m))

  pub found : (xs : List R) → Found P xs
  found xs =
      let test = mark P xs (last_slot P) in
      record {
        all = λ p. (
          λ m. has_kept test 0 (length xs) p (omega arith, omega (arith, hit_within xs p m), (mark_decides P xs (last_slot P) p).1 m),
          λ h. (mark_decides P xs (last_slot P) p).0 (all-has (Passes test 0 (length xs)) (hits P xs) p (all_kept test 0 (length xs)) h).2,
        );
        rising = rising test 0 (length xs);
      }
