-- The stages together.
use Rattle.std.proofs.Common.{◌≡◌, ℕ, ◌+◌, ◌*◌, ◌/◌, ◌%◌, ◌<◌, ◌≤◌, Bool, true, eqb, ltb, ◌&&◌, List, [], ◌∷◌, get_or, refl, ap, ◌∙◌, arith}
use Rattle.std.proofs.lemmas.Bool.{eqb-true, ltb-true, and_parts}
use Rattle.runs.specs.Bits.{bit}
use Rattle.engines.specs.Rows.{Width}
use Rattle.engines.specs.Rows.Width.{narrow, wide}
use Rattle.engines.specs.Turns.{Stage, row_of, column_of, Exchanged, Turned}
use Rattle.engines.specs.Turns.Stage.{wide_16, wide_8, wide_4, wide_2, wide_1, narrow_4, narrow_2, narrow_1}
use Rattle.engines.proofs.Tables.{every, at}

-- stages of one number of rows, the last one first
pub data Stages (rows : ℕ) (from : List ℕ) : List ℕ → List ℕ → Type 0 where
  none : Stages rows from [] from
  more : {by : ℕ} {bys middle to : List ℕ} → Stages rows from bys middle → Exchanged rows by middle to → Stages rows from (by ∷ bys) to

-- where the bit of a row and column was before the stages
abbrev row_before : List ℕ → ℕ → ℕ → ℕ
row_before [] r c = r
row_before (by ∷ bys) r c = row_before bys (row_of by r c) (column_of by r c)

abbrev column_before : List ℕ → ℕ → ℕ → ℕ
column_before [] r c = c
column_before (by ∷ bys) r c = column_before bys (row_of by r c) (column_of by r c)

-- all on the way lies inside
abbrev within : ℕ → List ℕ → ℕ → ℕ → Bool
within rows [] r c = true
within rows (by ∷ bys) r c = (ltb r rows && ltb c 64) && within rows bys (row_of by r c) (column_of by r c)

followed : (rows : ℕ) (from : List ℕ) (bys to : List ℕ) → Stages rows from bys to → (r c : ℕ) → within rows bys r c ≡ true → bit (get_or to r 0) c ≡ bit (get_or from (row_before bys r c) 0) (column_before bys r c)
followed rows from _ to none r c t = refl
followed rows from _ to (more {by = by} {bys = bys} {middle = middle} before last) r c t =
    let first = and_parts (ltb r rows && ltb c 64) _ t in
    let inside = and_parts (ltb r rows) (ltb c 64) first.0 in
    last.all r c (ltb-true r rows inside.0) (ltb-true c 64 inside.1) ∙ followed rows from bys middle before (row_of by r c) (column_of by r c) first.1

abbrev turn_test : ℕ → List ℕ → ℕ → ℕ → Bool
turn_test n bys r c = within n bys r c && (eqb (row_before bys r c) (c % n) && eqb (column_before bys r c) (c / n * n + r))

-- the stages turn each square of n columns, by a test of all rows and columns
turned : (n : ℕ) (bys : List ℕ) → every (λ r. every (turn_test n bys r) 64) n ≡ true → (from to : List ℕ) → Stages n from bys to → Turned n from to
turned n bys passes from to stages = record {
  all = λ r c lr lc.
      let t = and_parts (within n bys r c) _ (at (turn_test n bys r) 64 (at (λ r. every (turn_test n bys r) 64) n passes r lr) c lc) in
      let u = and_parts (eqb (row_before bys r c) (c % n)) _ t.1 in
      followed n from bys to stages r c t.0 ∙ ap (λ q. bit (get_or from q 0) (column_before bys r c)) (eqb-true _ _ u.0) ∙ ap (bit (get_or from (c % n) 0)) (eqb-true _ _ u.1);
}

-- the stages of a width
pub stage_16 : (w : ℕ) → Width w → 8 < w → Stage w 16
stage_16 _ narrow l = let z : ⊥ = omega arith in absurd z
stage_16 _ wide l = wide_16

pub stage_8 : (w : ℕ) → Width w → 8 < w → Stage w 8
stage_8 _ narrow l = let z : ⊥ = omega arith in absurd z
stage_8 _ wide l = wide_8

pub stage_4 : (w : ℕ) → Width w → Stage w 4
stage_4 _ narrow = narrow_4
stage_4 _ wide = wide_4

pub stage_2 : (w : ℕ) → Width w → Stage w 2
stage_2 _ narrow = narrow_2
stage_2 _ wide = wide_2

pub stage_1 : (w : ℕ) → Width w → Stage w 1
stage_1 _ narrow = narrow_1
stage_1 _ wide = wide_1

pub turned_wide : (w : ℕ) → Width w → 8 < w → (from to : List ℕ) → Stages w from (1 ∷ 2 ∷ 4 ∷ 8 ∷ 16 ∷ []) to → Turned w from to
turned_wide _ narrow l = let z : ⊥ = omega arith in absurd z
turned_wide _ wide l = turned 32 (1 ∷ 2 ∷ 4 ∷ 8 ∷ 16 ∷ []) refl

pub turned_narrow : (w : ℕ) → Width w → w ≤ 8 → (from to : List ℕ) → Stages w from (1 ∷ 2 ∷ 4 ∷ []) to → Turned w from to
turned_narrow _ narrow l = turned 8 (1 ∷ 2 ∷ 4 ∷ []) refl
turned_narrow _ wide l = let z : ⊥ = omega arith in absurd z
