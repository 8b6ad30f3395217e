-- The numbers of rows and columns of each stage, by tests that are computed.
use Rattle.std.proofs.Common.{◌≡◌, ℕ, ◌+◌, ◌-◌, ◌*◌, ◌/◌, ◌%◌, ◌^◌, ◌<◌, ◌≤◌, Bool, true, eqb, ltb, leb, ◌&&◌, ◌||◌, ◌⊎◌, refl, inl, inr, ⊎_elim, arith}
use Rattle.std.proofs.lemmas.Bool.{eqb-true, ltb-true, leb-true, and_parts, or_cases, agree_below, agree_below_at}
use Rattle.runs.specs.Bits.{bit}
use Rattle.engines.specs.Turns.{Stage, MaskOf}
use Rattle.engines.specs.Turns.Stage.{wide_16, wide_8, wide_4, wide_2, wide_1, narrow_4, narrow_2, narrow_1}

-- the test f passes at each number below n
abbrev pub every : (ℕ → Bool) → ℕ → Bool
every f n = agree_below f (λ k. true) n

pub at : (f : ℕ → Bool) (n : ℕ) → every f n ≡ true → (k : ℕ) → k < n → f k ≡ true
at f n t k l = agree_below_at f (λ k. true) n k t l

-- the upper row of pair i, and the pair of row q
abbrev pub pair : ℕ → ℕ → ℕ
pair by i = 2 * i - i % by

abbrev pub pair_of : ℕ → ℕ → ℕ
pair_of by q = q / (2 * by) * by + q % by

abbrev size_test : ℕ → ℕ → Bool
size_test n by = leb n 32 && (ltb 0 by && ltb by 64)

abbrev row_test : ℕ → ℕ → ℕ → Bool
row_test n by q = ltb (pair_of by q) (n / 2) && (eqb q (pair by (pair_of by q)) || eqb q (pair by (pair_of by q) + by))

abbrev place_test : ℕ → ℕ → ℕ → Bool
place_test n by i = ltb (pair by i + by) n && (eqb (pair_of by (pair by i)) i && eqb (pair_of by (pair by i + by)) i)

abbrev side_test : ℕ → ℕ → Bool
side_test by i = eqb (pair by i / by % 2) 0 && eqb ((pair by i + by) / by % 2) 1

abbrev column_test : ℕ → ℕ → Bool
column_test by c = eqb (c / by % 2) 0 && (ltb c by || eqb ((c - by) / by % 2) 1) || eqb (c / by % 2) 1 && (leb by c && eqb ((c - by) / by % 2) 0)

record Passed (n by : ℕ) : Type 0 where
  size : size_test n by ≡ true
  rows : every (row_test n by) n ≡ true
  places : every (place_test n by) (n / 2) ≡ true
  sides : every (side_test by) (n / 2) ≡ true
  columns : every (column_test by) 64 ≡ true

passed : (n by : ℕ) → Stage n by → Passed n by
passed _ _ wide_16 = record { size = refl; rows = refl; places = refl; sides = refl; columns = refl }
passed _ _ wide_8 = record { size = refl; rows = refl; places = refl; sides = refl; columns = refl }
passed _ _ wide_4 = record { size = refl; rows = refl; places = refl; sides = refl; columns = refl }
passed _ _ wide_2 = record { size = refl; rows = refl; places = refl; sides = refl; columns = refl }
passed _ _ wide_1 = record { size = refl; rows = refl; places = refl; sides = refl; columns = refl }
passed _ _ narrow_4 = record { size = refl; rows = refl; places = refl; sides = refl; columns = refl }
passed _ _ narrow_2 = record { size = refl; rows = refl; places = refl; sides = refl; columns = refl }
passed _ _ narrow_1 = record { size = refl; rows = refl; places = refl; sides = refl; columns = refl }

module _ (n by : ℕ) (w : Stage n by) where
  p : Passed n by
  p = passed n by w

  sizes : (leb n 32 ≡ true) × ((ltb 0 by && ltb by 64) ≡ true)
  sizes = and_parts _ _ p.size

  pub few : n ≤ 32
  few = leb-true n 32 sizes.0

  pub pos : 0 < by
  pos = ltb-true 0 by (and_parts _ _ sizes.1).0

  pub small : by < 64
  small = ltb-true by 64 (and_parts _ _ sizes.1).1

  in_row : (q : ℕ) → q < n → (ltb (pair_of by q) (n / 2) ≡ true) × ((eqb q (pair by (pair_of by q)) || eqb q (pair by (pair_of by q) + by)) ≡ true)
  in_row q l = and_parts _ _ (at (row_test n by) n p.rows q l)

  -- a row is the upper or the lower one of its pair
  pub names : (q : ℕ) → q < n → (q ≡ pair by (pair_of by q)) ⊎ (q ≡ pair by (pair_of by q) + by)
  names q l = ⊎_elim (λ t. inl (eqb-true q (pair by (pair_of by q)) t)) (λ t. inr (eqb-true q (pair by (pair_of by q) + by) t)) (or_cases _ _ (in_row q l).1)

  pub of_in : (q : ℕ) → q < n → pair_of by q < n / 2
  of_in q l = ltb-true _ _ (in_row q l).0

  in_place : (i : ℕ) → i < n / 2 → (ltb (pair by i + by) n ≡ true) × ((eqb (pair_of by (pair by i)) i && eqb (pair_of by (pair by i + by)) i) ≡ true)
  in_place i l = and_parts _ _ (at (place_test n by) (n / 2) p.places i l)

  pub inside : (i : ℕ) → i < n / 2 → pair by i + by < n
  inside i l = ltb-true _ _ (in_place i l).0

  pub of_upper : (i : ℕ) → i < n / 2 → pair_of by (pair by i) ≡ i
  of_upper i l = eqb-true _ _ (and_parts _ _ (in_place i l).1).0

  pub of_lower : (i : ℕ) → i < n / 2 → pair_of by (pair by i + by) ≡ i
  of_lower i l = eqb-true _ _ (and_parts _ _ (in_place i l).1).1

  pub upper : (i : ℕ) → i < n / 2 → pair by i / by % 2 ≡ 0
  upper i l = eqb-true _ _ (and_parts _ _ (at (side_test by) (n / 2) p.sides i l)).0

  pub lower : (i : ℕ) → i < n / 2 → (pair by i + by) / by % 2 ≡ 1
  lower i l = eqb-true _ _ (and_parts _ _ (at (side_test by) (n / 2) p.sides i l)).1

  -- a column is on the left with none before it, or one on the right, or on the right
  pub column : (c : ℕ) → c < 64
      → ((c / by % 2 ≡ 0) × ((c < by) ⊎ ((c - by) / by % 2 ≡ 1))) ⊎ ((c / by % 2 ≡ 1) × (by ≤ c) × ((c - by) / by % 2 ≡ 0))
  column c l = ⊎_elim
      (λ (t : (eqb (c / by % 2) 0 && (ltb c by || eqb ((c - by) / by % 2) 1)) ≡ true).
      let both = and_parts _ _ t in
      inl (eqb-true _ _ both.0, ⊎_elim (λ t. inl (ltb-true c by t)) (λ t. inr (eqb-true ((c - by) / by % 2) 1 t)) (or_cases _ _ both.1)))
      (λ (t : (eqb (c / by % 2) 1 && (leb by c && eqb ((c - by) / by % 2) 0)) ≡ true).
      let both = and_parts _ _ t in
      let rest = and_parts _ _ both.1 in
      inr (eqb-true _ _ both.0, leb-true _ _ rest.0, eqb-true _ _ rest.1))
      (or_cases _ _ (at (column_test by) 64 p.columns c l))

  -- what a call of the stage with a mask asks
  pub ready : (mask : ℕ) → agree_below (bit mask) (λ c. eqb (c / by % 2) 0) 64 ≡ true → (n * 8 < 2 ^ 63) × (Stage n by × MaskOf by mask)
  ready mask t = (omega (arith, few), (w, λ c l. agree_below_at (bit mask) (λ c. eqb (c / by % 2) 0) 64 c t l))
