-- The latest earlier place, where there is one.
use Rattle.std.proofs.Common.{◌≡◌, ℕ, zero, suc, ◌-◌, ◌<◌, ◌≤◌, Bool, true, false, cond, ◌&&◌, List, Some, None, Option, unwrap_or, sym, refl, ap, subst, arith}
use Rattle.std.proofs.lemmas.Bool.{both_ways}
use Rattle.std.proofs.lemmas.Bool.Decides.{nat_tests}
use Rattle.runs.specs.declared.gap.Gap.{Gap}
use Rattle.runs.specs.Gaps.{low, high}
use Rattle.runs.specs.Words.{some, near, before}
use Rattle.runs.proofs.Steps.{at_top}
use Rattle.runs.proofs.Places.{NoneTo, before_found, before_none}
use Rattle.search.specs.Traces.{latest_before}

some_true : (f : ℕ → Bool) (n k : ℕ) → k < n → f k ≡ true → some f n ≡ true
some_true f zero k l t = absurd (omega arith)
some_true f (suc n) k l t = at_top n k l (λ i. f i ≡ true → some f (suc n) ≡ true) (λ a s. let h = some_true f n k a t in grind (arith, nat_tests)) (λ s. grind (arith, nat_tests)) t

some_false : (f : ℕ → Bool) (n k : ℕ) → some f n ≡ false → k < n → f k ≡ false
some_false f zero k e l = absurd (omega arith)
some_false f (suc n) k e l = at_top n k l (λ i. f i ≡ false) (λ a. some_false f n k (grind (arith, nat_tests)) a) (grind (arith, nat_tests))

some_none : (f : ℕ → Bool) (n : ℕ) → ((i : ℕ) → i < n → f i ≡ false) → some f n ≡ false
some_none f zero none = refl
some_none f (suc n) none = rw (none n (omega arith)) (some_none f n (λ i l. none i (omega arith)))

module _ (gs : List Gap) (marks : ℕ → ℕ → Bool) (j p : ℕ) where
  abbrev test : ℕ → Bool
  test q = near gs j q p && marks j q

  pub latest_found : (d : ℕ) → low gs j ≤ d → d ≤ high gs j → d < p → marks j (p - suc d) ≡ true → NoneTo gs marks j p d → Some (p - suc d) ≡ latest_before gs marks j p
  latest_found d lo hi l here none =
      let is : p - suc (p - suc d) ≡ d = omega arith in
      let t : test (p - suc d) ≡ true = grind (arith, nat_tests) in
      rw (some_true test p (p - suc d) (omega arith) t) (ap Some (sym (before_found gs marks j p d lo hi l here none)))

  pub latest_none : NoneTo gs marks j p (suc (high gs j)) → None ≡ latest_before gs marks j p
  latest_none none = rw (some_none test p (λ i l. go i l (test i) refl)) refl
    where
      go : (i : ℕ) → i < p → (b : Bool) → test i ≡ b → test i ≡ false
      go i l false e = e
      go i l true e =
          let is : p - suc (p - suc i) ≡ i = omega arith in
          let lo : low gs j ≤ p - suc i = grind (arith, nat_tests) in
          let hi : p - suc i ≤ high gs j = grind (arith, nat_tests) in
          let here : marks j i ≡ true = grind (arith, nat_tests) in
          absurd (both_ways (marks j i) (subst (λ k. marks j k ≡ false) is (none (p - suc i) lo (omega arith) (omega arith))) here)

  -- where there is none, the place of a trace is 0
  pub latest_or : (o : Option ℕ) → o ≡ latest_before gs marks j p → unwrap_or o 0 ≡ before gs marks j p
  latest_or o is = rw is (go (some test p) refl)
    where
      go : (b : Bool) → some test p ≡ b → unwrap_or (cond b (Some (before gs marks j p)) None) 0 ≡ before gs marks j p
      go true e = refl
      go false e = sym (before_none gs marks j p (λ d lo hi l.
          let is : p - suc (p - suc d) ≡ d = omega arith in
          let no = some_false test p (p - suc d) e (omega arith) in
          grind (arith, nat_tests)))
