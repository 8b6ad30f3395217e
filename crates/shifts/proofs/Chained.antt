-- A list of calls from an opening on keeps the promise.
use Rattle.std.proofs.Common.{◌≡◌, ℕ, zero, suc, ◌+◌, ◌-◌, ◌<◌, ◌≤◌, cond, leb, List, [], ◌∷◌, length, take, drop, Some, Option, sym, refl, ap, ◌∙◌, subst, arith}
use Rattle.std.proofs.lemmas.List.{drop-drop}
use Rattle.std.specs.List.{slice_get}
use Rattle.std.proofs.lemmas.Bool.{cond-true, cond-false, le-leb, lt-leb}
use Rattle.runs.proofs.Steps.{at_top}
use Rattle.records.specs.States.{Meaning, Terms, State, pattern_by}
use Rattle.records.specs.Books.{Book, Answer, blank}
use Rattle.records.specs.Sound.{Sound}
use Rattle.shifts.specs.Made.{Made, next, book_from, book_at}
use Rattle.shifts.specs.Carried.{Carried}
use Rattle.shifts.specs.Chains.{Chain, none, more}
use Rattle.shifts.specs.Promise.{Promise}
use Rattle.shifts.proofs.Standing.{stands}
use Rattle.shifts.proofs.Answering.{answers}
use Rattle.shifts.proofs.Ever.{later_at, finals_stay}

pub nth_inside : {X : Type 0} (xs : List X) (i : ℕ) (x : X) → slice_get xs i ≡ Some x → i < length xs
nth_inside [] i x e = let z : ◌≡◌ {A = ℕ} 0 1 = cc in absurd (omega arith)
nth_inside (y ∷ xs) zero x e = omega arith
nth_inside (y ∷ xs) (suc i) x e = omega (arith, nth_inside xs i x e)

module _ {G E R : Type 0} (M : Meaning G E R) where
  -- one call, at its place in the lists
  pub record Step (ms : List (Made R)) (said : List Answer) (states : ℕ → State G E R) (i : ℕ) : Type 0 where
    pub m : Made R
    pub a : Answer
    pub call : slice_get ms i ≡ Some m
    pub answer : slice_get said i ≡ Some a
    pub carried : Carried M m (states i) a (states (suc i))

  pub record History (ms : List (Made R)) (said : List Answer) (s : State G E R) (n : ℕ) (t : State G E R) : Type 0 where
    pub states : ℕ → State G E R
    pub start : states 0 ≡ s
    pub end : states n ≡ t
    pub steps : (i : ℕ) → i < n → Step ms said states i

  -- the states with one more at the end
  extended : (ℕ → State G E R) → ℕ → State G E R → ℕ → State G E R
  extended states n u i = cond (leb i n) (states i) u

  extended_low : (states : ℕ → State G E R) (n : ℕ) (u : State G E R) (i : ℕ) → i ≤ n → extended states n u i ≡ states i
  unfolding extended
  extended_low states n u i l = cond-true (leb i n) (states i) u (le-leb i n l)

  extended_top : (states : ℕ → State G E R) (n : ℕ) (u : State G E R) → extended states n u (suc n) ≡ u
  unfolding extended
  extended_top states n u = cond-false (leb (suc n) n) (states (suc n)) u (lt-leb (suc n) n (omega arith))

  module _ (ms : List (Made R)) (said : List Answer) (s : State G E R) where
    step_low : (states : ℕ → State G E R) (n : ℕ) (u : State G E R) (i : ℕ) → i < n → Step ms said states i → Step ms said (extended states n u) i
    step_low states n u i l p = record {
      m = p.m;
      a = p.a;
      call = p.call;
      answer = p.answer;
      carried = subst (λ (x : State G E R). Carried M p.m x p.a (extended states n u (suc i))) (sym (extended_low states n u i (omega arith)))
          (subst (λ (x : State G E R). Carried M p.m (states i) p.a x) (sym (extended_low states n u (suc i) (omega arith))) p.carried);
    }

    step_top : (states : ℕ → State G E R) (n : ℕ) (t u : State G E R) (m : Made R) (a : Answer) → states n ≡ t → slice_get ms n ≡ Some m → slice_get said n ≡ Some a → Carried M m t a u → Step ms said (extended states n u) n
    step_top states n t u m a end call answer carried = record {
      m = m;
      a = a;
      call = call;
      answer = answer;
      carried = subst (λ (x : State G E R). Carried M m x a (extended states n u (suc n))) (sym (extended_low states n u n (omega arith) ∙ end))
          (subst (λ (x : State G E R). Carried M m t a x) (sym (extended_top states n u)) carried);
    }

    longer : (n : ℕ) (t u : State G E R) (m : Made R) (a : Answer) → History ms said s n t → slice_get ms n ≡ Some m → slice_get said n ≡ Some a → Carried M m t a u → History ms said s (suc n) u
    longer n t u m a h call answer carried = record {
      states = extended h.states n u;
      start = extended_low h.states n u 0 (omega arith) ∙ h.start;
      end = extended_top h.states n u;
      steps = λ i l. at_top n i l (Step ms said (extended h.states n u)) (λ b. step_low h.states n u i b (h.steps i b)) (step_top h.states n t u m a h.end call answer carried);
    }

    pub history : (n : ℕ) (t : State G E R) → Chain M ms said s n t → History ms said s n t
    history _ t none = record { states = λ _. s; start = refl; end = refl; steps = λ i l. absurd (omega arith) }
    history _ u (more {n = n} {t = t} {m = m} {a = a} chain call answer carried) = longer n t u m a (history n t chain) call answer carried

  -- the book after one call more
  pub book_more : (T : Terms G) (b : Book R) (ms : List (Made R)) (i : ℕ) (m : Made R) → slice_get ms i ≡ Some m → book_from (pattern_by M T) T.room b (take (suc i) ms) ≡ next (pattern_by M T) T.room (book_from (pattern_by M T) T.room b (take i ms)) m
  book_more T b [] i m e = let z : ◌≡◌ {A = ℕ} 0 1 = cc in absurd (omega arith)
  book_more T b (x ∷ ms) zero m e = let is : x ≡ m = cc in ap (next (pattern_by M T) T.room b) is
  book_more T b (x ∷ ms) (suc i) m e = book_more T (next (pattern_by M T) T.room b x) ms i m e

  module _ (T : Terms G) (ms : List (Made R)) (said : List Answer) (s t : State G E R) (opened : Sound M T blank s) (h : History ms said s (length ms) t) (each : length said ≡ length ms) where
    sound_at : (i : ℕ) → i ≤ length ms → Sound M T (book_at (pattern_by M T) T.room ms i) (h.states i)
    sound_at zero l = subst (Sound M T blank) (sym h.start) opened
    sound_at (suc i) l =
        let p = h.steps i (omega arith) in
        subst (λ (b : Book R). Sound M T b (h.states (suc i))) (sym (book_more T blank ms i p.m p.call)) (p.carried.sound T (book_at (pattern_by M T) T.room ms i) (sound_at i (omega arith)))

    some_same : {X : Type 0} (o : Option X) (x y : X) → o ≡ Some x → o ≡ Some y → x ≡ y
    some_same o x y p q = cc

    drop_more : {X : Type 0} (i j : ℕ) (l k : List X) → i ≤ j → drop i l ≡ drop i k → drop j l ≡ drop j k
    drop_more i j l k le e = let is : i + (j - i) ≡ j = omega arith in subst (λ (n : ℕ). drop n l ≡ drop n k) is (sym (drop-drop (j - i) i l) ∙ ap (drop (j - i)) e ∙ drop-drop (j - i) i k)

    behind_at : (i : ℕ) → i ≤ length ms → let n = length (book_at (pattern_by M T) T.room ms i).readings in
        (drop n (h.states i).readings ≡ drop n (h.states 0).readings) × (drop n (h.states i).sheet ≡ drop n (h.states 0).sheet)
    behind_at zero l = (refl, refl)
    behind_at (suc i) l =
        let p = h.steps i (omega arith) in
        let old = behind_at i (omega arith) in
        let grows = (later_at M T ms i (suc i) (omega arith)).grows in
        let counted = (sound_at (suc i) l).count in
        let b = p.carried.behind in (
          subst (λ (n : ℕ). drop n (h.states (suc i)).readings ≡ drop n (h.states i).readings) counted b.0 ∙ drop_more _ _ _ _ grows old.0,
          subst (λ (n : ℕ). drop n (h.states (suc i)).sheet ≡ drop n (h.states i).sheet) counted b.1 ∙ drop_more _ _ _ _ grows old.1,
        )

    pub promised : Promise M T ms said h.states
    promised = record {
      each = each;
      stands = λ i l. stands M T (book_at (pattern_by M T) T.room ms i) (h.states i) (sound_at i l);
      behind = behind_at;
      right = λ i m a call answer.
          let l : i < length ms = nth_inside ms i m call in
          let p = h.steps i l in
          let carried : Carried M m (h.states i) a (h.states (suc i)) = subst (λ (x : Made R). Carried M x (h.states i) a (h.states (suc i))) (some_same _ _ _ p.call call)
          (subst (λ (x : Answer). Carried M p.m (h.states i) x (h.states (suc i))) (some_same _ _ _ p.answer answer) p.carried) in
          answers M T (book_at (pattern_by M T) T.room ms i) m (h.states i) (h.states (suc i)) (sound_at i (omega arith)) a carried;
      final = finals_stay M T ms;
    }
