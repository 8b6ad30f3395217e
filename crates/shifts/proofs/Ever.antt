-- What lies below the line stays.
use Rattle.std.proofs.Common.{◌≡◌, ℕ, zero, suc, ◌<◌, ◌≤◌, List, [], ◌∷◌, length, take, Ok, sym, refl, ◌∙◌, subst, arith, length-set}
use Rattle.std.specs.List.{slice_get}
use Rattle.std.proofs.lemmas.List.{length_push}
use Rattle.std.proofs.lemmas.Bool.Decides.{nat_tests}
use Rattle.runs.specs.Laws.{Final}
use Rattle.runs.proofs.Nth.{nth_set, nth_append}
use Rattle.runs.proofs.Traced.{final}
use Rattle.records.specs.declared.call.Call.{Call}
use Rattle.records.specs.declared.call.Call.TheVariants.{Append, Amend, Settle, Word, NextHit, NextFinalHit, Trace, FinalHits, Close}
use Rattle.records.specs.States.{Meaning, Terms, pattern_by}
use Rattle.records.specs.Books.{Book, blank, entered, grant}
use Rattle.shifts.specs.Made.{Made, next, book_from, book_at}
use Rattle.shifts.proofs.Answering.{Way, shut, misfit, denied, done, way}

module _ {R : Type 0} where
  -- the line goes up, the readings grow, and those below the line stay
  pub record Later (b d : Book R) : Type 0 where
    pub up : b.line ≤ d.line
    pub grows : length b.readings ≤ length d.readings
    pub same : (k : ℕ) → k < b.line → slice_get b.readings k ≡ slice_get d.readings k
    pub order : d.line ≤ length d.readings

  later_self : (b : Book R) → b.line ≤ length b.readings → Later b b
  later_self b o = record { up = omega arith; grows = omega arith; same = λ k l. refl; order = o }

  later_then : (b d e : Book R) → Later b d → Later d e → Later b e
  later_then b d e p q = record {
    up = omega (arith, p.up, q.up);
    grows = omega (arith, p.grows, q.grows);
    same = λ k l. p.same k l ∙ q.same k (omega (arith, p.up));
    order = q.order;
  }

module _ {G E R : Type 0} (M : Meaning G E R) (T : Terms G) where
  later_entered : (b : Book R) (room : ℕ) (call : Call R) → b.line ≤ length b.readings → grant (pattern_by M T) T.room b room call ≡ Ok tt → Later b (entered b call)
  later_entered b room (Append x) o ok = record {
    up = omega arith;
    grows = omega (arith, length_push b.readings x);
    same = λ k l. nth_append b.readings (x ∷ []) k (omega arith);
    order = omega (arith, length_push b.readings x);
  }
  later_entered b room (Amend p x) o ok =
      let line : b.line ≤ p = grind (arith, nat_tests) in
      record {
        up = omega arith;
        grows = omega (arith, length-set b.readings p x);
        same = λ k l. nth_set b.readings p x k (omega arith);
        order = omega (arith, length-set b.readings p x);
      }
  later_entered b room (Settle n) o ok = record { up = grind (arith, nat_tests); grows = omega arith; same = λ k l. refl; order = grind (arith, nat_tests) }
  later_entered b room (Word p) o ok = later_self b o
  later_entered b room (NextHit p) o ok = later_self b o
  later_entered b room (NextFinalHit p) o ok = later_self b o
  later_entered b room (Trace p) o ok = later_self b o
  later_entered b room FinalHits o ok = later_self b o
  later_entered b room Close o ok = record { up = o; grows = omega arith; same = λ k l. refl; order = omega arith }

  later_next : (b : Book R) (m : Made R) → b.line ≤ length b.readings → Later b (next (pattern_by M T) T.room b m)
  later_next b m o = go (way M T b m)
    where
      go : Way M T b m → Later b (next (pattern_by M T) T.room b m)
      go (shut v w n) = subst (Later b) (sym n) (later_self b o)
      go (misfit v l f w n) = subst (Later b) (sym n) (later_self b o)
      go (denied v f r g w n) = subst (Later b) (sym n) (later_self b o)
      go (done v f g w n) = subst (Later b) (sym n) (later_entered b (length m.list) m.call o g)

  later_from : (b : Book R) (ms : List (Made R)) → b.line ≤ length b.readings → Later b (book_from (pattern_by M T) T.room b ms)
  later_from b [] o = later_self b o
  later_from b (m ∷ ms) o = let one = later_next b m o in later_then b (next (pattern_by M T) T.room b m) (book_from (pattern_by M T) T.room (next (pattern_by M T) T.room b m) ms) one (later_from (next (pattern_by M T) T.room b m) ms one.order)

  between : (b : Book R) (ms : List (Made R)) (i j : ℕ) → i ≤ j → b.line ≤ length b.readings → Later (book_from (pattern_by M T) T.room b (take i ms)) (book_from (pattern_by M T) T.room b (take j ms))
  between b [] zero zero l o = later_self b o
  between b [] zero (suc j) l o = later_self b o
  between b [] (suc i) zero l o = later_self b o
  between b [] (suc i) (suc j) l o = later_self b o
  between b (m ∷ ms) zero j l o = later_from b (take j (m ∷ ms)) o
  between b (m ∷ ms) (suc i) zero l o = absurd (omega arith)
  between b (m ∷ ms) (suc i) (suc j) l o = between (next (pattern_by M T) T.room b m) ms i j (omega arith) (later_next b m o).order

  pub later_at : (ms : List (Made R)) (i j : ℕ) → i ≤ j → Later (book_at (pattern_by M T) T.room ms i) (book_at (pattern_by M T) T.room ms j)
  later_at ms i j l = between blank ms i j l (omega arith)

  pub finals_stay : (ms : List (Made R)) (i j : ℕ) → i ≤ j → Final (pattern_by M T) (book_at (pattern_by M T) T.room ms i).readings (book_at (pattern_by M T) T.room ms j).readings (book_at (pattern_by M T) T.room ms i).line
  finals_stay ms i j l = final (pattern_by M T) (book_at (pattern_by M T) T.room ms i).readings (book_at (pattern_by M T) T.room ms j).readings (book_at (pattern_by M T) T.room ms i).line (later_at ms i j l).same
