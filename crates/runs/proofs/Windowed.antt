-- The recurrence over the places of a gap, counted back from p, as a program loops.
use Rattle.std.proofs.Common.{◌≡◌, ℕ, suc, ◌-◌, ◌<◌, ◌≤◌, Bool, true, ◌&&◌, ltb, leb, ◌↔◌, List, Decides, refl, subst, arith}
use Rattle.std.proofs.lemmas.Bool.Decides.{Decides-and, Decides-like, Decides-below_or, Decides-ltb, same_from_decides}
use Rattle.runs.specs.Gaps.{low, high}
use Rattle.runs.specs.Runs.{Pattern, fits_at, Mark}
use Rattle.runs.specs.Words.{some, mark}
use Rattle.runs.proofs.Marked.{mark_suc, mark_decides, decides_leb}

module _ {R : Type 0} (P : Pattern R) (xs : List R) where
  -- gap j allows that d places lie between, and the place before them bears mark j
  abbrev pub Back : ℕ → ℕ → ℕ → Type 0
  Back j p d = (low P.gaps j ≤ d) × ((d < p) × Mark P xs j (p - suc d))

  pub windowed : (j p : ℕ) → Mark P xs (suc j) p ↔ ((fits_at P xs (suc j) p ≡ true) × ((d : ℕ) × (d < suc (high P.gaps j)) × Back j p d))
  windowed j p = (
    λ m.
        let (f, (q, n, k)) = (mark_suc P xs j p).0 m in
        let is : q ≡ p - suc (p - suc q) = omega arith in
        (f, (p - suc q, omega arith, (omega arith, (omega arith, subst (λ x. Mark P xs j x) is k)))),
    λ (f, (d, l, (a, (b, k)))). (mark_suc P xs j p).1 (f, (p - suc d, (omega arith, omega arith, omega arith), k)),
  )

  abbrev pub back : ℕ → ℕ → ℕ → Bool
  back j p d = leb (low P.gaps j) d && (ltb d p && mark P xs j (p - suc d))

  pub back_decides : (j p d : ℕ) → Decides (back j p d) (Back j p d)
  back_decides j p d =
      let lo = low P.gaps j in
      Decides-and (leb lo d) (ltb d p && mark P xs j (p - suc d)) (decides_leb lo d)
      (Decides-and (ltb d p) (mark P xs j (p - suc d)) (Decides-ltb d p) (mark_decides P xs j (p - suc d)))

  pub mark_windowed : (j p : ℕ) → mark P xs (suc j) p ≡ (fits_at P xs (suc j) p && some (back j p) (suc (high P.gaps j)))
  mark_windowed j p =
      let n = suc (high P.gaps j) in
      same_from_decides (mark P xs (suc j) p) (fits_at P xs (suc j) p && some (back j p) n) (mark_decides P xs (suc j) p)
      (Decides-like (fits_at P xs (suc j) p && some (back j p) n) (windowed j p).1 (windowed j p).0
      (Decides-and (fits_at P xs (suc j) p) (some (back j p) n) (λ x. x, λ x. x)
      (Decides-below_or (back j p) (Back j p) (some (back j p)) (back_decides j p) refl (λ _. refl) n)))
