-- How far a run reaches, and how far a reading is felt.
use Rattle.std.proofs.Common.{◌≡◌, ℕ, zero, suc, ◌+◌, ◌<◌, ◌≤◌, ◌≢◌, ◌↔◌, List, [], ◌∷◌, length, sym, refl, ap, ◌∙◌, arith}
use Rattle.std.specs.List.{slice_get}
use Rattle.runs.specs.declared.gap.Gap.{Gap}
use Rattle.runs.specs.Gaps.{high, spans, reach, window}
use Rattle.runs.specs.Runs.{Pattern, last_slot, slots, place, among, Near, Run, Mark}
use Rattle.runs.specs.Laws.{Alike}
use Rattle.runs.proofs.Steps.{at_none, at_top}

-- the sum of hi + 1 over the first j gaps
abbrev span : List Gap → ℕ → ℕ
span gs zero = 0
span gs (suc j) = span gs j + suc (high gs j)

span_cons : (g : Gap) (gs : List Gap) (j : ℕ) → span (g ∷ gs) (suc j) ≡ suc g.hi + span gs j
span_cons g gs zero = omega arith
span_cons g gs (suc j) = omega (arith, span_cons g gs j)

span_all : (gs : List Gap) → span gs (length gs) ≡ spans gs
span_all [] = refl
span_all (g ∷ gs) = omega (arith, span_cons g gs (length gs), span_all gs)

span_mono : (gs : List Gap) (i j : ℕ) → i ≤ j → span gs i ≤ span gs j
span_mono gs i zero l = at_none (λ x. span gs x ≤ 0) i l (omega arith)
span_mono gs i (suc j) l = at_top (suc j) i (omega arith) (λ x. span gs x ≤ span gs (suc j)) (λ k. omega (arith, span_mono gs i j (omega arith))) (omega arith)

pub window_bound : (gs : List Gap) (h : ℕ) → h < length gs → suc (high gs h) ≤ window gs
window_bound [] h l = absurd (omega arith)
window_bound (g ∷ gs) zero l = omega arith
window_bound (g ∷ gs) (suc h) l = omega (arith, window_bound gs h (omega arith))

module _ {R : Type 0} (P : Pattern R) where
  -- the place of slot j lies at most `span` places after that of each slot before it
  spread : (ps : List ℕ) (j : ℕ) → ((h : ℕ) → h < j → Near P h (place ps h) (place ps (suc h))) →
      (h : ℕ) → h ≤ j → (place ps h ≤ place ps j) × (place ps j ≤ place ps h + span P.gaps j)
  spread ps zero gap h l = at_none (λ x. (place ps x ≤ place ps 0) × (place ps 0 ≤ place ps x + 0)) h l (omega arith)
  spread ps (suc j) gap h l =
      at_top (suc j) h (omega arith) (λ x. (place ps x ≤ place ps (suc j)) × (place ps (suc j) ≤ place ps x + span P.gaps (suc j)))
      (λ k. omega (arith, spread ps j (λ i b. gap i (omega arith)) h (omega arith), gap j (omega arith))) (omega arith)

  spread_run : (xs : List R) (j : ℕ) (ps : List ℕ) → Run P xs (suc j) ps → (h : ℕ) → h ≤ j → (place ps h ≤ place ps j) × (place ps j ≤ place ps h + span P.gaps j)
  spread_run xs j ps r h l = spread ps j (λ i b. r.gap i (omega arith)) h l

  -- no place of a run lies past its end, or before its end + 1 - reach
  pub within_run : (xs : List R) (p : ℕ) (ps : List ℕ) → Run P xs (slots P) ps → place ps (last_slot P) ≡ p →
      (h : ℕ) → h < slots P → (place ps h ≤ p) × (suc p ≤ place ps h + reach P.gaps)
  within_run xs p ps r end h l = omega (arith, spread_run xs (last_slot P) ps r h (omega arith), span_all P.gaps)

  module _ (xs ys : List R) where
    -- a mark rests on the readings of its own place and of `span` places before it
    carry : (j p : ℕ) → ((k : ℕ) → k ≤ p → p ≤ k + span P.gaps j → slice_get xs k ≡ slice_get ys k) → Mark P xs j p → Mark P ys j p
    carry j p same (ps, r, end) = (
      ps,
      record {
        long = r.long;
        fit = λ h l.
            let w = spread_run xs j ps r h (omega arith) in
            ap (among (P.sets h)) (sym (same (place ps h) (omega arith) (omega arith))) ∙ r.fit h l;
        gap = r.gap;
      },
      end,
    )

  alike_from : (xs ys : List R) (j p : ℕ) → ((k : ℕ) → k ≤ p → p ≤ k + span P.gaps j → slice_get xs k ≡ slice_get ys k) → Mark P xs j p ↔ Mark P ys j p
  alike_from xs ys j p same = (carry xs ys j p same, carry ys xs j p (λ k a b. sym (same k a b)))

  -- below the first difference of two lists of readings all marks are the same
  pub alike_below : (xs ys : List R) (line : ℕ) → ((k : ℕ) → k < line → slice_get xs k ≡ slice_get ys k) → (j p : ℕ) → p < line → Mark P xs j p ↔ Mark P ys j p
  alike_below xs ys line same j p l = alike_from xs ys j p (λ k a b. same k (omega arith))

  -- where the readings differ at p alone
  module _ (xs ys : List R) (p : ℕ) (same : (k : ℕ) → k ≢ p → slice_get xs k ≡ slice_get ys k) where
    pub alike_before : (k : ℕ) → k < p → Alike P xs ys k
    alike_before k l j b = alike_from xs ys j k (λ i x y. same i (omega arith))

    pub alike_beyond : (k : ℕ) → p + reach P.gaps ≤ k → Alike P xs ys k
    alike_beyond k l j b = alike_from xs ys j k (λ i x y. same i (omega (arith, span_mono P.gaps j (last_slot P) (omega arith), span_all P.gaps)))
