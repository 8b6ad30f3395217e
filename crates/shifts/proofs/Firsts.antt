-- The first hit, and the hits below the line.
use Rattle.std.proofs.Common.{◌≡◌, ℕ, zero, suc, ◌+◌, ◌-◌, ◌<◌, ◌≤◌, Bool, true, false, cond, List, Some, None, filter, Option, refl, arith, MatchOption}
use Rattle.std.specs.List.{find, range_with_len}
use Rattle.std.proofs.lemmas.Bool.{both_ways}
use Rattle.std.proofs.ByRecursion.{all-has}
use Rattle.runs.specs.Runs.{Pattern, last_slot, Hit}
use Rattle.runs.specs.Words.{mark}
use Rattle.runs.proofs.Listed.{Passes, all_kept, has_kept, rising}
use Rattle.runs.proofs.Marked.{mark_decides}
use Rattle.runs.proofs.Steps.{at_low}
use Rattle.records.specs.Books.{first_from}
use Rattle.shifts.specs.Promise.{First, Names}

module _ (f : ℕ → Bool) where
  abbrev pub FirstOf : ℕ → ℕ → Option ℕ → Type 0
  FirstOf a n o = MatchOption o ((k : ℕ) → a ≤ k → k < a + n → f k ≡ false) (λ q. (a ≤ q) × (q < a + n) × (f q ≡ true) × ((k : ℕ) → a ≤ k → k < q → f k ≡ false))

  pub first_found : (a n : ℕ) → FirstOf a n (find f (range_with_len a n))
  first_found a zero = λ k l b. absurd (omega arith)
  first_found a (suc n) = go (f a) refl (find f (range_with_len (a + 1) n)) (first_found (a + 1) n)
    where
      later : f a ≡ false → (q : ℕ) → ((k : ℕ) → a + 1 ≤ k → k < q → f k ≡ false) → (k : ℕ) → a ≤ k → k < q → f k ≡ false
      later e q rest k l b = at_low a k l (λ i. i < q → f i ≡ false) (λ _. e) (λ c d. rest k (omega arith) d) b

      go : (v : Bool) → f a ≡ v → (o : Option ℕ) → FirstOf (a + 1) n o → FirstOf a (suc n) (cond v (Some a) o)
      go true e o h = (omega arith, omega arith, e, λ k l b. absurd (omega arith))
      go false e None h = λ k l b. later e (a + suc n) (λ i c d. h i c (omega arith)) k l b
      go false e (Some q) h = (omega arith, omega arith, h.2, later e q h.3)

module _ {R : Type 0} (P : Pattern R) (xs : List R) where
  abbrev test : ℕ → Bool
  test = mark P xs (last_slot P)

  hits : (k : ℕ) → test k ≡ true → Hit P xs k
  hits k e = (mark_decides P xs (last_slot P) k).0 e

  no_hit : (k : ℕ) → test k ≡ false → Hit P xs k → ⊥
  no_hit k e h = both_ways (test k) e ((mark_decides P xs (last_slot P) k).1 h)

  pub first_hit : (p end : ℕ) → First P xs p end (first_from test p end)
  first_hit p end = go (first_from test p end) (first_found test p (end - p))
    where
      go : (o : Option ℕ) → FirstOf test p (end - p) o → First P xs p end o
      go None h = λ k l b. no_hit k (h k l (omega arith))
      go (Some q) h = (h.0, omega (arith, h.0, h.1), hits q h.2, λ k l b. no_hit k (h.3 k l b))

  pub names : (line : ℕ) → Names P xs line (filter test (range_with_len 0 line))
  names line = record {
    all = λ p. (
      λ h. let q = all-has (Passes test 0 line) (filter test (range_with_len 0 line)) p (all_kept test 0 line) h in (omega (arith, q.1), hits p q.2),
      λ (l, h). has_kept test 0 line p (omega arith, omega arith, (mark_decides P xs (last_slot P) p).1 h),
    );
    rising = rising test 0 line;
  }
