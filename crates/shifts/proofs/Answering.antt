-- Each call is answered by the book before it.
use Rattle.std.proofs.Common.{◌≡◌, ℕ, ◌<◌, ◌≤◌, Bool, true, false, cond, leb, ◌↔◌, List, [], ◌∷◌, ◌++◌, length, get_or, take, set, is_err, Ok, Err, sym, refl, ap, ◌∙◌, subst, inl, inr, arith, length-set}
use Rattle.std.proofs.lemmas.Bool.{both_ways, leb-true, leb-false}
use Rattle.std.proofs.lemmas.Bool.Decides.{nat_tests}
use Rattle.text.specs.declared.refusal.Refusal.{Refusal}
use Rattle.text.specs.declared.refusal.Refusal.TheVariants.{OtherBuffers}
use Rattle.runs.specs.Gaps.{window}
use Rattle.runs.specs.Runs.{Pattern, last_slot}
use Rattle.runs.specs.Words.{mark, word, words, trace, reworked}
use Rattle.runs.specs.Laws.{Counted, Felt}
use Rattle.runs.proofs.Nth.{nth_set}
use Rattle.runs.proofs.Stopped.{felt, counted_is}
use Rattle.runs.proofs.Traced.{trace_is}
use Rattle.runs.proofs.Worded.{word_alike, length_words}
use Rattle.records.specs.declared.call.Call.{Call}
use Rattle.records.specs.declared.call.Call.TheVariants.{Append, Amend, Settle, Word, NextHit, NextFinalHit, Trace, FinalHits, Close}
use Rattle.records.specs.declared.call.Reply.{Reply}
use Rattle.records.specs.declared.call.Reply.TheVariants.{NotTaken}
use Rattle.records.specs.States.{Stage, Meaning, Terms, State, pattern_by}
use Rattle.records.specs.Refused.{Grant, amending}
use Rattle.records.specs.Books.{Book, Answer, takes, lends, entered, grant, reply_to, list_after, after}
use Rattle.records.specs.Sound.{Sound}
use Rattle.shifts.specs.Stands.{answered}
use Rattle.shifts.specs.Made.{Made, apt, next, answer_to}
use Rattle.shifts.specs.Carried.{Carried}
use Rattle.shifts.specs.Promise.{Refuses, Mends, Says, Answers}
use Rattle.shifts.proofs.Standing.{sheet_word, word_tells}
use Rattle.shifts.proofs.Firsts.{first_hit, names}
use Rattle.shifts.proofs.Denying.{granted, denies, hit_told}

module _ {G E R : Type 0} (M : Meaning G E R) (T : Terms G) (b : Book R) (m : Made R) where
  abbrev P : Pattern R
  P = pattern_by M T

  abbrev xs : List R
  xs = b.readings

  -- the four ways of a call, with the book after it
  pub data Way : Type 0 where
    shut : takes b.stage m.call ≡ false → answer_to (pattern_by M T) T.room b m ≡ answered (Ok NotTaken) m.list → next (pattern_by M T) T.room b m ≡ b → Way
    misfit : takes b.stage m.call ≡ true → lends m.call ≡ true → m.lent < T.room → answer_to (pattern_by M T) T.room b m ≡ answered (Err (OtherBuffers (length xs))) m.list → next (pattern_by M T) T.room b m ≡ b → Way
    denied : takes b.stage m.call ≡ true → (lends m.call ≡ true → T.room ≤ m.lent) → (e : Refusal) → grant (pattern_by M T) T.room b (length m.list) m.call ≡ Err e
        → answer_to (pattern_by M T) T.room b m ≡ answered (Err e) m.list → next (pattern_by M T) T.room b m ≡ b → Way
    done : takes b.stage m.call ≡ true → (lends m.call ≡ true → T.room ≤ m.lent) → grant (pattern_by M T) T.room b (length m.list) m.call ≡ Ok tt
        → answer_to (pattern_by M T) T.room b m ≡ answered (Ok (reply_to (pattern_by M T) T.room b m.call)) (list_after (pattern_by M T) T.room b m.list m.call) → next (pattern_by M T) T.room b m ≡ entered b m.call → Way

  pub way : Way
  way = go (takes b.stage m.call) refl (lends m.call) refl (leb T.room m.lent) refl (grant (pattern_by M T) T.room b (length m.list) m.call) refl
    where
      go : (v : Bool) → takes b.stage m.call ≡ v → (l : Bool) → lends m.call ≡ l → (f : Bool) → leb T.room m.lent ≡ f
          → (g : Grant) → grant (pattern_by M T) T.room b (length m.list) m.call ≡ g → Way
      go false v l i f j g k = shut v (rw v) (idle (apt (pattern_by M T) T.room m))
        where
          idle : (w : Bool) → cond w (after (pattern_by M T) T.room b m.list m.call) b ≡ b
          idle true = rw v
          idle false = refl
      go true v true i false j g k = misfit v i (leb-false T.room m.lent j) (rw (v, i, j)) (rw (i, j))
      go true v true i true j (Ok tt) k = done v (λ _. leb-true T.room m.lent j) k (rw (v, i, j, k)) (rw (i, j, v, k))
      go true v true i true j (Err e) k = denied v (λ _. leb-true T.room m.lent j) e k (rw (v, i, j, k)) (rw (i, j, v, k))
      go true v false i f j (Ok tt) k = done v (λ y. absurd (both_ways (lends m.call) i y)) k (rw (v, i, k)) (rw (i, v, k))
      go true v false i f j (Err e) k = denied v (λ y. absurd (both_ways (lends m.call) i y)) e k (rw (v, i, k)) (rw (i, v, k))

  module _ (s t : State G E R) (h : Sound M T b s) where
    -- an amendment, from the sheet before to the sheet after
    mends : (p : ℕ) (x : R) → amending (length xs) b.line p ≡ Ok tt → Sound M T (entered b (Amend p x)) t → Mends M T b p (reworked (window P.gaps) p (words P xs) (words P (set xs p x))) s t
    mends p x ok after-sound =
        let line : b.line ≤ p = grind (arith, nat_tests) in
        let there : p < length xs = grind (arith, nat_tests) in
        record {
          within = (line, there);
          before = λ k l. new k (omega arith) ∙ sym ((word_alike P xs ys k).1 (change.before k l)) ∙ sym (sheet_word M T b s h k (omega arith));
          beyond = λ k l far. new k l ∙ sym ((word_alike P xs ys k).1 (change.beyond k far)) ∙ sym (sheet_word M T b s h k l);
          counted = counted there;
          few = change.few (omega (arith, size));
        }
      where
        ys : List R
        ys = set xs p x

        size : length ys ≡ length xs
        size = length-set xs p x

        change : Felt P xs ys p
        change = felt P xs ys p (λ k ne. nth_set xs p x k ne)

        new : (k : ℕ) → k < length xs → get_or t.sheet k 0 ≡ word P ys k
        new k l = sheet_word M T (entered b (Amend p x)) t after-sound k (omega (arith, size))

        written : take (length xs) t.sheet ≡ words P ys
        written = subst (λ (n : ℕ). take n t.sheet ≡ words P ys) size after-sound.written

        counted : p < length xs → Counted (window P.gaps) p (take (length xs) s.sheet) (take (length xs) t.sheet) (reworked (window P.gaps) p (words P xs) (words P ys))
        counted there = rw (h.written, written) (counted_is (window P.gaps) p (words P xs) (words P ys) (omega (arith, length_words P ys, size)))

    says : (list : List ℕ) (call : Call R) → grant (pattern_by M T) T.room b (length list) call ≡ Ok tt → Sound M T (entered b call) t → Says M T b list call (reply_to (pattern_by M T) T.room b call) (list_after (pattern_by M T) T.room b list call) s t
    says list (Append x) ok after-sound = (word P (xs ++ x ∷ []) (length xs), refl, word_tells P (xs ++ x ∷ []) (length xs), refl)
    says list (Amend p x) ok after-sound = (reworked (window P.gaps) p (words P xs) (words P (set xs p x)), refl, mends p x ok after-sound, refl)
    says list (Settle n) ok after-sound = (refl, refl)
    says list (Word p) ok after-sound = (word P xs p, refl, word_tells P xs p, refl)
    says list (NextHit p) ok after-sound = (_, refl, first_hit P xs p (length xs), refl)
    says list (NextFinalHit p) ok after-sound = (_, refl, first_hit P xs p b.line, refl)
    says list (Trace p) ok after-sound =
        let hit : mark P xs (last_slot P) p ≡ true = grind (arith, nat_tests) in
        (refl, (trace P xs p, trace_is P xs p ((hit_told M T b h.within p).0 hit), refl))
    says list FinalHits ok after-sound = (_, names P xs b.line, refl, refl)
    says list Close ok after-sound = (refl, refl)

    module _ (a : Answer) (c : Carried M m s a t) where
      is : a ≡ answer_to (pattern_by M T) T.room b m
      is = c.right T b h

      reply_ok : {r q : Reply} → a.reply ≡ Ok r → a.reply ≡ Ok q → q ≡ r
      reply_ok e f = cc

      reply_err : {e f : Refusal} → a.reply ≡ Err e → a.reply ≡ Err f → f ≡ e
      reply_err e f = cc

      not_both : {r : Reply} {e : Refusal} → a.reply ≡ Ok r → a.reply ≡ Err e → ⊥
      not_both e f = let z : ◌≡◌ {A = ℕ} 0 1 = cc in omega arith

      pub answers : Answers M T b m a s t
      answers = record {
        untaken = shutting way;
        refused = refusing way;
        left = λ e f. let l = c.refused (ap is_err f) in (l.1, l.0);
        said = saying way;
      }
        where
          here : takes b.stage m.call ≡ false → takes s.stage m.call ≡ false
          here e = ap (λ (st : Stage). takes st m.call) h.stage ∙ e

          shutting : Way → takes b.stage m.call ≡ false → (a ≡ answered (Ok NotTaken) m.list) × (t ≡ s)
          shutting (shut v w n) e = (is ∙ w, c.untaken (here e))
          shutting (misfit v l f w n) e = absurd (both_ways (takes b.stage m.call) e v)
          shutting (denied v f r g w n) e = absurd (both_ways (takes b.stage m.call) e v)
          shutting (done v f g w n) e = absurd (both_ways (takes b.stage m.call) e v)

          refusing : Way → takes b.stage m.call ≡ true → (e : Refusal) → (a.reply ≡ Err e) ↔ Refuses M T b m e
          refusing (shut v w n) y e = absurd (both_ways (takes b.stage m.call) v y)
          refusing (misfit v l f w n) y e = (
            λ q. inl (l, f, sym (reply_err q (ap (λ (x : Answer). x.reply) (is ∙ w)))),
            elim [ inl (_, _, same) ↦ ap (λ (x : Answer). x.reply) (is ∙ w) ∙ ap Err (sym same) | inr (fits, _) ↦ absurd (omega (arith, fits l)) ],
          )
          refusing (denied v f r g w n) y e = (
            λ q. inr (f, (denies M T b h.within (length m.list) m.call e).0 (g ∙ ap Err (reply_err q (ap (λ (x : Answer). x.reply) (is ∙ w))))),
            elim [
              | inl (l, short, _) ↦ absurd (omega (arith, f l))
              | inr (_, d) ↦ let k = (denies M T b h.within (length m.list) m.call e).1 d in ap (λ (x : Answer). x.reply) (is ∙ w) ∙ ap Err (errs g k)
            ],
          )
            where
              errs : {u : Refusal} → grant (pattern_by M T) T.room b (length m.list) m.call ≡ Err r → grant (pattern_by M T) T.room b (length m.list) m.call ≡ Err u → r ≡ u
              errs p q = cc
          refusing (done v f g w n) y e = (
            λ q. absurd (not_both (ap (λ (x : Answer). x.reply) (is ∙ w)) q),
            elim [
              | inl (l, short, _) ↦ absurd (omega (arith, f l))
              | inr (_, d) ↦ absurd (granted _ g ((denies M T b h.within (length m.list) m.call e).1 d))
            ],
          )

          saying : Way → takes b.stage m.call ≡ true → (r : Reply) → a.reply ≡ Ok r → Says M T b m.list m.call r a.list s t
          saying (shut v w n) y r e = absurd (both_ways (takes b.stage m.call) v y)
          saying (misfit v l f w n) y r e = absurd (not_both e (ap (λ (x : Answer). x.reply) (is ∙ w)))
          saying (denied v f u g w n) y r e = absurd (not_both e (ap (λ (x : Answer). x.reply) (is ∙ w)))
          saying (done v f g w n) y r e =
              let sound : Sound M T (entered b m.call) t = subst (λ (d : Book R). Sound M T d t) n (c.sound T b h) in
              let same = reply_ok e (ap (λ (x : Answer). x.reply) (is ∙ w)) in
              let lists = ap (λ (x : Answer). x.list) (is ∙ w) in
              subst (λ (q : Reply). Says M T b m.list m.call q a.list s t) same
              (subst (λ (l : List ℕ). Says M T b m.list m.call (reply_to (pattern_by M T) T.room b m.call) l s t) (sym lists) (says m.list m.call g sound))
