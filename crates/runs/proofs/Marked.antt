-- The recurrence of the marks, and the marks as computed.
use Rattle.std.proofs.Common.{◌≡◌, ℕ, zero, suc, ◌-◌, ◌<◌, ◌≤◌, Bool, true, ◌&&◌, ltb, leb, ◌↔◌, List, [], ◌∷◌, ◌++◌, length, take, Decides, refl, arith}
use Rattle.std.proofs.lemmas.List.{get_or_append_left, get_or_push, length_push, get_or-take, length-take-le}
use Rattle.std.proofs.lemmas.Bool.{leb-true, le-leb}
use Rattle.std.proofs.lemmas.Bool.Decides.{Decides-and, Decides-like, Decides-below_or, Decides-ltb}
use Rattle.runs.specs.Gaps.{low, high}
use Rattle.runs.specs.Runs.{Pattern, place, fits_at, Near, Run, Mark}
use Rattle.runs.specs.Words.{some, near, mark}
use Rattle.runs.specs.Laws.{Marks}
use Rattle.runs.proofs.Steps.{at_none, at_top}

-- a list of k places, with one more place
module _ (ps : List ℕ) (p k : ℕ) (long : length ps ≡ k) where
  pub push_long : length (ps ++ p ∷ []) ≡ suc k
  push_long = simp length_push (omega arith)

  pub push_front : (h : ℕ) → h < k → place (ps ++ p ∷ []) h ≡ place ps h
  push_front h l = get_or_append_left ps (p ∷ []) 0 h (omega arith)

  pub push_end : place (ps ++ p ∷ []) k ≡ p
  push_end = get_or_push ps p 0 k long

pub decides_leb : (a b : ℕ) → Decides (leb a b) (a ≤ b)
decides_leb a b = (leb-true a b, le-leb a b)

module _ {R : Type 0} (P : Pattern R) (xs : List R) where
  -- the front of a run is a run
  pub front : {k : ℕ} {ps : List ℕ} (i : ℕ) → i ≤ k → Run P xs k ps → Run P xs i (take i ps)
  front {k} {ps} i l r =
      let cut = λ (h : ℕ) (b : h < i). get_or-take i ps h 0 b in
      let long : length ps ≡ k = r.long in
      record {
        long = length-take-le i ps (omega arith);
        fit = λ h b. rw (cut h b) (r.fit h (omega arith));
        gap = λ h b. rw (cut h (omega arith), cut (suc h) b) (r.gap h (omega arith));
      }

  -- each place of a run bears its slot's mark
  pub mark_in_run : {k : ℕ} {ps : List ℕ} (h : ℕ) → h < k → Run P xs k ps → Mark P xs h (place ps h)
  mark_in_run {k} {ps} h l r = (take (suc h) ps, front (suc h) l r, get_or-take (suc h) ps h 0 (omega arith))

  pub fits_from : {j p : ℕ} → Mark P xs j p → fits_at P xs j p ≡ true
  fits_from {j} (ps, r, end) = rw end at (r.fit j (omega arith))

  pub mark_0 : (p : ℕ) → Mark P xs 0 p ↔ (fits_at P xs 0 p ≡ true)
  mark_0 p = (
    fits_from,
    λ f. (
      p ∷ [],
      record {
        long = refl;
        fit = λ h l. at_none (λ i. fits_at P xs i (place (p ∷ []) i) ≡ true) h (omega arith) f;
        gap = λ h l. absurd (omega arith);
      },
      refl,
    ),
  )

  mark_to : (j p : ℕ) → Mark P xs (suc j) p → (q : ℕ) × Near P j q p × Mark P xs j q
  mark_to j p (ps, r, end) = (place ps j, rw end at (r.gap j (omega arith)), mark_in_run j (omega arith) r)

  mark_from : (j p q : ℕ) → fits_at P xs (suc j) p ≡ true → Near P j q p → Mark P xs j q → Mark P xs (suc j) p
  mark_from j p q f n (ps, r, end) =
      let low = push_front ps p (suc j) r.long in
      let top = push_end ps p (suc j) r.long in
      let qs = ps ++ p ∷ [] in (
        qs,
        record {
          long = push_long ps p (suc j) r.long;
          fit = λ h l. at_top (suc j) h l (λ i. fits_at P xs i (place qs i) ≡ true) (λ b. rw (low h b) (r.fit h b)) (rw top f);
          gap = λ h l. at_top j h (omega arith) (λ i. Near P i (place qs i) (place qs (suc i)))
              (λ b. rw (low h (omega arith), low (suc h) (omega arith)) (r.gap h (omega arith)))
              (rw (low j (omega arith), top, end) n);
        },
        top,
      )

  pub mark_suc : (j p : ℕ) → Mark P xs (suc j) p ↔ ((fits_at P xs (suc j) p ≡ true) × ((q : ℕ) × Near P j q p × Mark P xs j q))
  mark_suc j p = (λ m. (fits_from m, mark_to j p m), λ (f, (q, n, m)). mark_from j p q f n m)

  pub near_decides : (h q p : ℕ) → Decides (near P.gaps h q p) (Near P h q p)
  near_decides h q p =
      let lo = low P.gaps h in
      Decides-like (near P.gaps h q p) (λ x. (x.0, x.1.0, x.1.1)) (λ x. (x.0, (x.1, x.2)))
      (Decides-and (ltb q p) _ (Decides-ltb q p) (Decides-and (leb lo (p - suc q)) _ (decides_leb lo (p - suc q)) (decides_leb (p - suc q) (high P.gaps h))))

  -- the test of an earlier place
  abbrev pub earlier : ℕ → ℕ → ℕ → Bool
  earlier j p q = near P.gaps j q p && mark P xs j q

  pub earlier_decides : (j p q : ℕ) → Decides (mark P xs j q) (Mark P xs j q) → Decides (earlier j p q) (Near P j q p × Mark P xs j q)
  earlier_decides j p q d = Decides-and (near P.gaps j q p) (mark P xs j q) (near_decides j q p) d

  pub mark_decides : (j p : ℕ) → Decides (mark P xs j p) (Mark P xs j p)
  unfolding mark
  mark_decides zero p = ((mark_0 p).1, (mark_0 p).0)
  mark_decides (suc j) p =
      let each = λ (q : ℕ). earlier_decides j p q (mark_decides j q) in
      Decides-like (mark P xs (suc j) p) (λ (f, (q, l, (n, m))). mark_from j p q f n m) (λ m. let (q, n, k) = mark_to j p m in (fits_from m, (q, n.0, (n, k))))
      (Decides-and (fits_at P xs (suc j) p) (some (earlier j p) p) (λ x. x, λ x. x)
      (Decides-below_or (earlier j p) (λ q. Near P j q p × Mark P xs j q) (some (earlier j p)) each refl (λ _. refl) p))

  pub marks : Marks P xs
  marks = record { first = mark_0; next = mark_suc; computed = mark_decides }
