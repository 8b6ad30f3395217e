-- Two outcomes that keep the promise are the same.
use Rattle.std.proofs.Common.{◌≡◌, ℕ, zero, suc, ◌<◌, ◌≤◌, true, ◌⊎◌, List, [], ◌∷◌, ◌++◌, length, take, drop, set, Some, Ok, Err, Result, sym, refl, ap, ◌∙◌, subst, inl, inr, arith, length-set, take-append-drop, get_or-take}
use Rattle.std.specs.List.{slice_get}
use Rattle.std.proofs.lemmas.List.{ext_get_or, length-take-le}
use Rattle.text.specs.declared.refusal.Refusal.{Refusal}
use Rattle.text.specs.declared.refusal.Refusal.TheVariants.{OtherBuffers}
use Rattle.runs.specs.Gaps.{window}
use Rattle.runs.specs.Runs.{Pattern, slots}
use Rattle.runs.specs.Words.{words, trace}
use Rattle.runs.proofs.Stopped.{reworked_is}
use Rattle.runs.proofs.Traced.{trace_is, trace_only}
use Rattle.runs.proofs.Worded.{length_words, get_or_words}
use Rattle.records.specs.declared.call.Call.{Call}
use Rattle.records.specs.declared.call.Call.TheVariants.{Append, Amend, Settle, Word, NextHit, NextFinalHit, Trace, FinalHits, Close}
use Rattle.records.specs.declared.call.Reply.{Reply}
use Rattle.records.specs.declared.call.Reply.TheVariants.{Placed, Reworked, Word as Bears, Hit, Named}
use Rattle.records.specs.States.{Meaning, Terms, State, pattern_by}
use Rattle.records.specs.Books.{Book, Answer, blank, lends, entered, reply_to, list_after, finals, overlaid}
use Rattle.shifts.specs.Stands.{answered}
use Rattle.shifts.specs.Made.{Made, next, answer_to, book_at}
use Rattle.shifts.specs.Promise.{Stands, Denies, Says, Answers, Promise}
use Rattle.shifts.specs.Laws.{SameContent, Determined}
use Rattle.shifts.proofs.Firsts.{first_hit, names}
use Rattle.shifts.proofs.Denying.{granted, denies}
use Rattle.shifts.proofs.Answering.{Way, shut, misfit, denied, done, way}
use Rattle.shifts.proofs.Chained.{book_more, nth_inside}
use Rattle.shifts.proofs.Unique.{tells_word, first_once, names_once}

module _ {G E R : Type 0} (M : Meaning G E R) (T : Terms G) where
  abbrev P : Pattern R
  P = pattern_by M T

  -- the sheet has the words of the book's readings
  written : (b : Book R) (s : State G E R) → Stands M T b s → take (length b.readings) s.sheet ≡ words P b.readings
  written b s h =
      let size = length-take-le (length b.readings) s.sheet (omega (arith, h.lengths, h.order)) in
      ext_get_or 0 (take (length b.readings) s.sheet) (words P b.readings) (omega (arith, size, length_words P b.readings))
      (λ k l. get_or-take (length b.readings) s.sheet k 0 (omega arith) ∙ tells_word P b.readings k _ (h.written k (omega arith)) ∙ sym (get_or_words P b.readings k))

  module _ (b : Book R) (s t : State G E R) (h : Stands M T b s) where
    abbrev xs : List R
    xs = b.readings

    -- what is said is what the book computes
    saying : (list : List ℕ) (call : Call R) (r : Reply) (list' : List ℕ) → Stands M T (entered b call) t → Says M T b list call r list' s t
        → (r ≡ reply_to (pattern_by M T) T.room b call) × (list' ≡ list_after (pattern_by M T) T.room b list call)
    saying list (Append x) r list' after (w, is, tells, lists) = (is ∙ ap (λ (v : ℕ). Placed (record { place = length xs; word = v })) (tells_word P (xs ++ x ∷ []) (length xs) w tells), lists)
    saying list (Amend p x) r list' after (n, is, mends, lists) =
        let size = length-set xs p x in
        let new : take (length xs) t.sheet ≡ words P (set xs p x) = subst (λ (m : ℕ). take m t.sheet ≡ words P (set xs p x)) size (written (entered b (Amend p x)) t after) in
        let counted = rw (written b s h, new) at mends.counted in
        (is ∙ ap Reworked (sym (reworked_is (window P.gaps) p (words P xs) (words P (set xs p x)) n counted)), lists)
    saying list (Settle n) r list' after (is, lists) = (is, lists)
    saying list (Word p) r list' after (w, is, tells, lists) = (is ∙ ap Bears (tells_word P xs p w tells), lists)
    saying list (NextHit p) r list' after (o, is, first, lists) = (is ∙ ap Hit (first_once P xs p (length xs) o _ first (first_hit P xs p (length xs))), lists)
    saying list (NextFinalHit p) r list' after (o, is, first, lists) = (is ∙ ap Hit (first_once P xs p b.line o _ first (first_hit P xs p b.line)), lists)
    saying list (Trace p) r list' after (is, (ps, traced, lists)) =
        (is, lists ∙ ap (λ (qs : List ℕ). qs ++ drop (slots P) list) (trace_only P xs p ps (trace P xs p) traced (trace_is P xs p traced.hit)))
    saying list FinalHits r list' after (hs, all, is, lists) =
        let same : hs ≡ finals (pattern_by M T) T.room b = names_once P xs b.line hs _ all (names P xs b.line) in
        (is ∙ ap (λ (ks : List ℕ). Named (length ks)) same, lists ∙ ap (λ (ks : List ℕ). overlaid ks list) same)
    saying list Close r list' after (is, lists) = (is, lists)

    module _ (m : Made R) (a : Answer) (c : Answers M T b m a s t) (after : Stands M T (next (pattern_by M T) T.room b m) t) where
      err : (e : Refusal) → a.reply ≡ Err e → a ≡ answered (Err e) m.list
      err e f = (λ i. answered (f i) ((c.left e f).0 i))

      pub determined_answer : a ≡ answer_to (pattern_by M T) T.room b m
      determined_answer = go (way M T b m)
        where
          go : Way M T b m → a ≡ answer_to (pattern_by M T) T.room b m
          go (shut v w n) = (c.untaken v).0 ∙ sym w
          go (misfit v l f w n) = err _ ((c.refused v _).1 (inl (l, f, refl))) ∙ sym w
          go (denied v f e g w n) = err e ((c.refused v e).1 (inr (f, (denies M T b h.order.1 (length m.list) m.call e).0 g))) ∙ sym w
          go (done v f g w n) = replying a.reply refl
            where
              replying : (r : Result Reply Refusal) → a.reply ≡ r → a ≡ answer_to (pattern_by M T) T.room b m
              replying (Ok r) e =
                  let d = saying m.list m.call r a.list (subst (λ (x : Book R). Stands M T x t) n after) (c.said v r e) in
                  (λ i. answered (e i) a.list) ∙ (λ i. answered (Ok (d.0 i)) (d.1 i)) ∙ sym w
              replying (Err e) f' = absurd (never ((c.refused v e).0 f'))
                where
                  never : ((lends m.call ≡ true) × (m.lent < T.room) × (e ≡ OtherBuffers (length xs))) ⊎ ((lends m.call ≡ true → T.room ≤ m.lent) × Denies M T b (length m.list) m.call e) → ⊥
                  never (inl (l, short, _)) = omega (arith, f l)
                  never (inr (_, d)) = granted _ g ((denies M T b h.order.1 (length m.list) m.call e).1 d)

  module _ (ms : List (Made R)) (said : List Answer) (states : ℕ → State G E R) (p : Promise M T ms said states) where
    -- the answers that the book computes
    pub answer_at : (i : ℕ) (m : Made R) (a : Answer) → slice_get ms i ≡ Some m → slice_get said i ≡ Some a → a ≡ answer_to (pattern_by M T) T.room (book_at (pattern_by M T) T.room ms i) m
    answer_at i m a call answer =
        let l = nth_inside ms i m call in
        determined_answer (book_at (pattern_by M T) T.room ms i) (states i) (states (suc i)) (p.stands i (omega arith)) m a (p.right i m a call answer)
        (subst (λ (b : Book R). Stands M T b (states (suc i))) (book_more M T blank ms i m call) (p.stands (suc i) (omega arith)))

pub nth_ext : {X : Type 0} (xs ys : List X) → length xs ≡ length ys → ((i : ℕ) (x y : X) → slice_get xs i ≡ Some x → slice_get ys i ≡ Some y → x ≡ y) → xs ≡ ys
nth_ext [] [] e same = refl
nth_ext [] (y ∷ ys) e same = absurd (omega arith)
nth_ext (x ∷ xs) [] e same = absurd (omega arith)
nth_ext (x ∷ xs) (y ∷ ys) e same =
    let heads : x ≡ y = same 0 x y refl refl in
    let tails : xs ≡ ys = nth_ext xs ys (omega arith) (λ i u v p q. same (suc i) u v p q) in
    (λ i. heads i ∷ tails i)

pub nth_some : {X : Type 0} (xs : List X) (i : ℕ) → i < length xs → (x : X) × (slice_get xs i ≡ Some x)
nth_some [] i l = absurd (omega arith)
nth_some (x ∷ xs) zero l = (x, refl)
nth_some (x ∷ xs) (suc i) l = nth_some xs i (omega arith)

-- lists with the same first entries and the same rest
parts_same : {X : Type 0} (n : ℕ) (xs ys : List X) → take n xs ≡ take n ys → drop n xs ≡ drop n ys → xs ≡ ys
parts_same n xs ys p q = sym (take-append-drop n xs) ∙ (λ i. p i ++ q i) ∙ take-append-drop n ys

pub determined : (G H E F R : Type 0) → Determined G H E F R
determined G H E F R M T N U same rooms ms said said' states states' p q = record {
  answers = nth_ext said said' (p.each ∙ sym q.each) (λ i a a' u v.
      let (m, call) = nth_some ms i (omega (arith, nth_inside said i a u, p.each)) in
      answer_at M T ms said states p i m a call u ∙ (λ k. answer_to (same k) (rooms k) (book_at (same k) (rooms k) ms i) m) ∙ sym (answer_at N U ms said' states' q i m a' call v));
  content = content;
  whole = λ rs ws i l.
      let n = length (book_at (pattern_by M T) T.room ms i).readings in
      let c = content i l in
      let one = p.behind i l in
      let two = subst (λ (k : ℕ). (drop k (states' i).readings ≡ drop k (states' 0).readings) × (drop k (states' i).sheet ≡ drop k (states' 0).sheet)) (sym (counts i)) (q.behind i l) in
      (parts_same n _ _ c.readings (one.0 ∙ ap (drop n) rs ∙ sym two.0), parts_same n _ _ c.sheet (one.1 ∙ ap (drop n) ws ∙ sym two.1));
}
  where
    books : (i : ℕ) → book_at (pattern_by M T) T.room ms i ≡ book_at (pattern_by N U) U.room ms i
    books i = (λ k. book_at (same k) (rooms k) ms i)

    counts : (i : ℕ) → length (book_at (pattern_by M T) T.room ms i).readings ≡ length (book_at (pattern_by N U) U.room ms i).readings
    counts i = ap (λ (b : Book R). length b.readings) (books i)

    content : (i : ℕ) → i ≤ length ms → SameContent (length (book_at (pattern_by M T) T.room ms i).readings) (states i) (states' i)
    content i l =
        let a = p.stands i l in
        let b = q.stands i l in
        record {
          readings = a.held ∙ ap (λ (c : Book R). c.readings) (books i) ∙ sym (ap (λ (n : ℕ). take n (states' i).readings) (counts i) ∙ b.held);
          sheet = written M T _ _ a ∙ (λ k. words (same k) (books i k).readings) ∙ sym (ap (λ (n : ℕ). take n (states' i).sheet) (counts i) ∙ written N U _ _ b);
        }
