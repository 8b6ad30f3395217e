-- The trace of a hit.
use Rattle.std.proofs.Common.{◌≡◌, ℕ, zero, suc, ◌<◌, ◌≤◌, true, ◌⊎◌, List, [], ◌∷◌, ◌++◌, length, sym, ◌∙◌, subst, inl, inr, arith}
use Rattle.std.specs.List.{slice_get}
use Rattle.std.proofs.lemmas.Bool.{cases_lt, cases_order}
use Rattle.std.proofs.lemmas.List.{ext_get_or}
use Rattle.runs.specs.Runs.{Pattern, last_slot, slots, place, fits_at, Near, Run, Mark, Hit, Latest, Trace, Earlier}
use Rattle.runs.specs.Words.{mark, before, trace_to, trace}
use Rattle.runs.specs.Laws.{Traces, Final}
use Rattle.runs.proofs.Steps.{at_top, at_low}
use Rattle.runs.proofs.Marked.{push_front, push_end, mark_in_run, fits_from, mark_suc, mark_decides, earlier, earlier_decides}
use Rattle.runs.proofs.Places.{last_is, trace_long, trace_end}
use Rattle.runs.proofs.Local.{alike_below, within_run}

not_both : (j : ℕ) (a b : List ℕ) (h i : ℕ) → Earlier j a b h → Earlier j b a i → ⊥
not_both j a b h i x y = go (cases_order h i)
  where
    go : (h ≡ i) ⊎ ((h < i) ⊎ (i < h)) → ⊥
    go (inl e) = let l : place a i < place b i = rw e at x.less in omega arith
    go (inr (inl l)) = omega (arith, x.same i l y.slot)
    go (inr (inr l)) = omega (arith, y.same h l x.slot)

module _ {R : Type 0} (P : Pattern R) (xs : List R) where
  -- where there is an earlier place, `before` is the latest
  pub latest_is : (j p q : ℕ) → Near P j q p → Mark P xs j q → Latest P xs j p (before P.gaps (mark P xs) j p)
  unfolding before
  latest_is j p q n k =
      let d = λ (i : ℕ). earlier_decides P xs j p i (mark_decides P xs j i) in
      let y = last_is (earlier P xs j p) p q n.0 ((d q).1 (n, k)) in
      let z = (d (before P.gaps (mark P xs) j p)).0 y.0 in
      record { near = z.0; marked = z.1; latest = λ i b w. y.1 i b.0 ((d i).1 (b, w)) }

  pub latest_before : (j p : ℕ) → Mark P xs (suc j) p → Latest P xs j p (before P.gaps (mark P xs) j p)
  latest_before j p m = let (f, (q, n, k)) = (mark_suc P xs j p).0 m in latest_is j p q n k

  -- there is one latest place
  pub latest_only : (j p q k : ℕ) → Latest P xs j p q → Latest P xs j p k → q ≡ k
  latest_only j p q k a b = omega (arith, a.latest k b.near b.marked, b.latest q a.near a.marked)

  pub before_is : (j p q : ℕ) → Latest P xs j p q → before P.gaps (mark P xs) j p ≡ q
  before_is j p q a = latest_only j p (before P.gaps (mark P xs) j p) q (latest_is j p q a.near a.marked) a

  trace_back : (j p : ℕ) → Mark P xs j p → (h : ℕ) → h < j → Latest P xs h (place (trace_to P.gaps (mark P xs) j p) (suc h)) (place (trace_to P.gaps (mark P xs) j p) h)
  trace_back zero p m h l = absurd (omega arith)
  trace_back (suc j) p m h l =
      let q = before P.gaps (mark P xs) j p in
      let ps = trace_to P.gaps (mark P xs) j q in
      let low = push_front ps p (suc j) (trace_long P.gaps (mark P xs) j q) in
      let new = latest_before j p m in
      at_top j h l (λ x. Latest P xs x (place (ps ++ p ∷ []) (suc x)) (place (ps ++ p ∷ []) x))
      (λ k. rw (low h (omega arith), low (suc h) (omega arith)) (trace_back j q new.marked h k))
      (rw (push_end ps p (suc j) (trace_long P.gaps (mark P xs) j q), low j (omega arith), trace_end P.gaps (mark P xs) j q) new)

  pub trace_is : (p : ℕ) → Hit P xs p → Trace P xs p (trace P xs p)
  unfolding trace
  trace_is p m = record { hit = m; long = trace_long P.gaps (mark P xs) (last_slot P) p; end = trace_end P.gaps (mark P xs) (last_slot P) p; back = trace_back (last_slot P) p m }

  pub trace_run : (p : ℕ) (ps : List ℕ) → Trace P xs p ps → Run P xs (slots P) ps
  trace_run p ps t = record {
    long = t.long;
    fit = λ h l. at_top (last_slot P) h l (λ x. fits_at P xs x (place ps x) ≡ true)
        (λ k. fits_from P xs (t.back h k).marked) (rw t.end (fits_from P xs t.hit));
    gap = λ h l. (t.back h (omega arith)).near;
  }

  module _ (p : ℕ) (ps qs : List ℕ) (t : Trace P xs p ps) (r : Run P xs (slots P) qs) (end : place qs (last_slot P) ≡ p) where
    abbrev SameFrom : ℕ → Type 0
    SameFrom h = (i : ℕ) → h ≤ i → i ≤ last_slot P → place qs i ≡ place ps i

    abbrev Compared : Type 0
    Compared = (qs ≡ ps) ⊎ ((h : ℕ) × Earlier (last_slot P) qs ps h)

    descend : (h : ℕ) → h ≤ last_slot P → SameFrom h → Compared
    descend zero l same = let (a, b) = lengths in inl (ext_get_or 0 qs ps (r.long ∙ sym t.long) (λ i k. same i (omega arith) (omega arith)))
      where
        lengths : (length qs ≡ slots P) × (length ps ≡ slots P)
        lengths = (r.long, t.long)
    descend (suc h) l same = go (cases_lt (place qs h) (place ps h)) (descend h (omega arith))
      where
        no_later : place qs h ≤ place ps h
        no_later = (t.back h l).latest (place qs h) (rw (same (suc h) (omega arith) l) at (r.gap h (omega arith))) (mark_in_run P xs h (omega arith) r)

        go : (place qs h < place ps h) ⊎ (place ps h ≤ place qs h) → (SameFrom h → Compared) → Compared
        go (inl k) down = inr (h, record { slot = omega arith; less = k; same = same })
        go (inr k) down = down (λ i x y. at_low h i x (λ n. place qs n ≡ place ps n) (omega (arith, no_later)) (λ z. same i z y))

    best : Compared
    best = descend (last_slot P) (omega arith) (λ i k l. let is : last_slot P ≡ i = omega arith in subst (λ x. place qs x ≡ place ps x) is (end ∙ sym t.end))

  pub trace_only : (p : ℕ) (ps qs : List ℕ) → Trace P xs p ps → Trace P xs p qs → ps ≡ qs
  trace_only p ps qs t u = go (best p ps qs t (trace_run p qs u) u.end) (best p qs ps u (trace_run p ps t) t.end)
    where
      go : (qs ≡ ps) ⊎ ((h : ℕ) × Earlier (last_slot P) qs ps h) → (ps ≡ qs) ⊎ ((h : ℕ) × Earlier (last_slot P) ps qs h) → ps ≡ qs
      go (inl e) d = sym e
      go (inr a) (inl e) = e
      go (inr a) (inr b) = absurd (not_both (last_slot P) qs ps a.0 b.0 a.1 b.1)

  pub traces : (p : ℕ) → Traces P xs p
  traces p = record { computed = trace_is p; only = trace_only p; run = trace_run p; best = best p }

module _ {R : Type 0} (P : Pattern R) where
  trace_carry : (xs ys : List R) (line : ℕ) → ((k : ℕ) → k < line → slice_get xs k ≡ slice_get ys k) → (p : ℕ) → p < line → (ps : List ℕ) → Trace P xs p ps → Trace P ys p ps
  trace_carry xs ys line same p l ps t = record {
    hit = (alike_below P xs ys line same (last_slot P) p l).0 t.hit;
    long = t.long;
    end = t.end;
    back = λ h b.
        let old = t.back h b in
        let w = within_run P xs p ps (trace_run P xs p ps t) t.end (suc h) (omega arith) in
        record {
          near = old.near;
          marked = (alike_below P xs ys line same h (place ps h) (omega arith)).0 old.marked;
          latest = λ q n m. old.latest q n ((alike_below P xs ys line same h q (omega arith)).1 m);
        };
  }

  pub final : (xs ys : List R) (line : ℕ) → ((k : ℕ) → k < line → slice_get xs k ≡ slice_get ys k) → Final P xs ys line
  final xs ys line same = record {
    hits = λ p l. alike_below P xs ys line same (last_slot P) p l;
    traces = λ p l ps. (trace_carry xs ys line same p l ps, trace_carry ys xs line (λ i b. sym (same i b)) p l ps);
  }
