-- The latest earlier place and the places of a trace, by any marks.
use Rattle.std.proofs.Common.{◌≡◌, ℕ, zero, suc, ◌-◌, ◌<◌, ◌≤◌, Bool, true, false, cond, ◌&&◌, ◌⊎◌, List, [], ◌∷◌, ◌++◌, length, refl, ap, subst, inl, inr, arith}
use Rattle.std.proofs.lemmas.Bool.{cases_lt, both_ways}
use Rattle.std.proofs.lemmas.Bool.Decides.{nat_tests}
use Rattle.runs.specs.declared.gap.Gap.{Gap}
use Rattle.runs.specs.Gaps.{low, high}
use Rattle.runs.specs.Runs.{place}
use Rattle.runs.specs.Words.{last, near, before, trace_to}
use Rattle.runs.proofs.Steps.{at_top}
use Rattle.runs.proofs.Marked.{push_long, push_front, push_end}

abbrev pub Last : (ℕ → Bool) → ℕ → ℕ → Type 0
Last f n q = (f q ≡ true) × ((i : ℕ) → i < n → f i ≡ true → i ≤ q)

pub last_is : (f : ℕ → Bool) (n k : ℕ) → k < n → f k ≡ true → Last f n (last f n)
last_is f zero k l t = absurd (omega arith)
last_is f (suc n) k l t = go (f n) refl (λ h. last_is f n k h t)
  where
    go : (b : Bool) → f n ≡ b → (k < n → Last f n (last f n)) → Last f (suc n) (cond b n (last f n))
    go true e ih = (e, λ i x y. omega arith)
    go false e ih =
        let below = λ (i : ℕ) (h : i < suc n) (y : f i ≡ true). at_top n i h (λ x. f x ≡ true → i < n) (λ a _. a) (λ z. absurd (both_ways (f n) e z)) y in
        let x = ih (below k l t) in
        (x.0, λ i h y. x.1 i (below i h y) y)

last_only : (f : ℕ → Bool) (n q k : ℕ) → q < n → k < n → Last f n q → Last f n k → q ≡ k
last_only f n q k a b x y = omega (arith, x.1 k b y.0, y.1 q a x.0)

last_none : (f : ℕ → Bool) (n : ℕ) → ((i : ℕ) → i < n → f i ≡ false) → last f n ≡ 0
last_none f zero none = refl
last_none f (suc n) none = rw (none n (omega arith)) (last_none f n (λ i l. none i (omega arith)))

last_below : (f : ℕ → Bool) (n : ℕ) → last f (suc n) ≤ n
last_below f zero = go (f 0)
  where
    go : (b : Bool) → cond b 0 0 ≤ 0
    go true = omega arith
    go false = omega arith
last_below f (suc n) = go (f (suc n)) (last_below f n)
  where
    go : (b : Bool) → last f (suc n) ≤ n → cond b (suc n) (last f (suc n)) ≤ suc n
    go true l = omega arith
    go false l = omega arith

last_same : (f g : ℕ → Bool) (n : ℕ) → ((i : ℕ) → i < n → f i ≡ g i) → last f n ≡ last g n
last_same f g zero same = refl
last_same f g (suc n) same = rw (same n (omega arith), last_same f g n (λ i l. same i (omega arith))) refl

module _ (gs : List Gap) (marks : ℕ → ℕ → Bool) where
  pub before_below : (j p : ℕ) → before gs marks j p ≤ p - 1
  unfolding before
  before_below j zero = omega arith
  before_below j (suc p) = omega (arith, last_below (λ q. near gs j q (suc p) && marks j q) p)

  -- what the test of an earlier place tells
  record Passed (j p q : ℕ) : Type 0 where
    pub below : q < p
    pub lo : low gs j ≤ p - suc q
    pub hi : p - suc q ≤ high gs j
    pub marked : marks j q ≡ true

  passed : (j p q : ℕ) → (near gs j q p && marks j q) ≡ true → Passed j p q
  passed j p q t = record { below = grind (arith, nat_tests); lo = grind (arith, nat_tests); hi = grind (arith, nat_tests); marked = grind (arith, nat_tests) }

  -- the search for the latest place: no place with fewer than d places between bears the mark
  abbrev pub NoneTo : ℕ → ℕ → ℕ → Type 0
  NoneTo j p d = (e : ℕ) → low gs j ≤ e → e < d → e < p → marks j (p - suc e) ≡ false

  none_nearer : (j p d q : ℕ) → NoneTo j p d → (near gs j q p && marks j q) ≡ true → d ≤ p - suc q
  none_nearer j p d q none t = go (passed j p q t) (cases_lt (p - suc q) d)
    where
      go : Passed j p q → (p - suc q < d) ⊎ (d ≤ p - suc q) → d ≤ p - suc q
      go x (inl l) =
          let is : p - suc (p - suc q) ≡ q = omega arith in
          absurd (both_ways (marks j q) (subst (λ k. marks j k ≡ false) is (none (p - suc q) x.lo l (omega arith))) x.marked)
      go x (inr l) = l

  pub before_found : (j p d : ℕ) → low gs j ≤ d → d ≤ high gs j → d < p → marks j (p - suc d) ≡ true → NoneTo j p d → before gs marks j p ≡ p - suc d
  unfolding before
  before_found j p d lo hi l here none =
      let test = λ (q : ℕ). near gs j q p && marks j q in
      let is : p - suc (p - suc d) ≡ d = omega arith in
      let t : test (p - suc d) ≡ true = grind (arith, nat_tests) in
      last_only test p (last test p) (p - suc d) (omega (arith, before_below j p)) (omega arith) (last_is test p (p - suc d) (omega arith) t)
      (t, λ i k s. omega (arith, none_nearer j p d i none s))

  pub before_none : (j p : ℕ) → NoneTo j p (suc (high gs j)) → before gs marks j p ≡ 0
  unfolding before
  before_none j p none = last_none (λ q. near gs j q p && marks j q) p (λ i l. go i (near gs j i p && marks j i) refl)
    where
      go : (i : ℕ) (b : Bool) → (near gs j i p && marks j i) ≡ b → b ≡ false
      go i false e = refl
      go i true e = let x = passed j p i e in absurd (omega (arith, none_nearer j p (suc (high gs j)) i none e))

  pub trace_long : (j p : ℕ) → length (trace_to gs marks j p) ≡ suc j
  trace_long zero p = refl
  trace_long (suc j) p = let q = before gs marks j p in push_long (trace_to gs marks j q) p (suc j) (trace_long j q)

  pub trace_end : (j p : ℕ) → place (trace_to gs marks j p) j ≡ p
  trace_end zero p = refl
  trace_end (suc j) p = let q = before gs marks j p in push_end (trace_to gs marks j q) p (suc j) (trace_long j q)

  pub trace_step : (j p h : ℕ) → h < j → place (trace_to gs marks j p) h ≡ before gs marks h (place (trace_to gs marks j p) (suc h))
  trace_step zero p h l = absurd (omega arith)
  trace_step (suc j) p h l =
      let q = before gs marks j p in
      let ps = trace_to gs marks j q in
      let front = push_front ps p (suc j) (trace_long j q) in
      at_top j h l (λ x. place (ps ++ p ∷ []) x ≡ before gs marks x (place (ps ++ p ∷ []) (suc x)))
      (λ k. rw (front h (omega arith), front (suc h) (omega arith)) (trace_step j q h k))
      (rw (push_end ps p (suc j) (trace_long j q), front j (omega arith)) (trace_end j q))

  -- no place of a trace lies past its end
  pub trace_below : (j p h : ℕ) → h ≤ j → place (trace_to gs marks j p) h ≤ p
  trace_below zero p h l = let is : 0 ≡ h = omega arith in subst (λ x. place (p ∷ []) x ≤ p) is (omega arith)
  trace_below (suc j) p h l =
      let q = before gs marks j p in
      let ps = trace_to gs marks j q in
      at_top (suc j) h (omega arith) (λ x. place (ps ++ p ∷ []) x ≤ p)
      (λ k. rw (push_front ps p (suc j) (trace_long j q) h (omega arith)) (omega (arith, trace_below j q h (omega arith), before_below j p)))
      (rw (push_end ps p (suc j) (trace_long j q)) (omega arith))

-- marks that agree before p give the same trace back from p
before_same : (gs : List Gap) (f g : ℕ → ℕ → Bool) (j p : ℕ) → ((q : ℕ) → q < p → f j q ≡ g j q) → before gs f j p ≡ before gs g j p
unfolding before
before_same gs f g j p same = last_same (λ q. near gs j q p && f j q) (λ q. near gs j q p && g j q) p (λ q l. ap (λ b. near gs j q p && b) (same q l))

pub trace_to_same : (gs : List Gap) (f g : ℕ → ℕ → Bool) (j p : ℕ) → ((i q : ℕ) → i < j → q < p → f i q ≡ g i q) → trace_to gs f j p ≡ trace_to gs g j p
trace_to_same gs f g zero p same = refl
trace_to_same gs f g (suc j) p same =
    let q = before gs g j p in
    let is = before_same gs f g j p (λ q l. same j q (omega arith) l) in
    let low = before_below gs g j p in
    rw is (ap (λ ps. ps ++ p ∷ []) (trace_to_same gs f g j q (λ i k a b. same i k (omega arith) (omega arith))))
