-- The answers of a shift, one after another, and that they depend on the sets of the slots alone.
use Rattle.std.proofs.Common.{◌≡◌, ℕ, zero, suc, ◌-◌, ◌≤◌, Bool, cond, List, [], ◌∷◌, ◌++◌, length, take, drop, set, Some, Ok, Err, sym, refl, ap, ◌∙◌, arith}
use Rattle.std.specs.List.{slice_get}
use Rattle.text.specs.declared.refusal.Refusal.TheVariants.{OtherBuffers}
use Rattle.runs.specs.declared.gap.Gap.{Gap}
use Rattle.runs.specs.Gaps.{window}
use Rattle.runs.specs.Runs.{Pattern, slots}
use Rattle.runs.specs.Words.{mark, reworked}
use Rattle.runs.proofs.Alike.{mark_alike, word_alike, words_alike, trace_alike}
use Rattle.runs.proofs.Below.{kept_same}
use Rattle.search.specs.Traces.{tracing_by}
use Rattle.records.specs.declared.call.Call.{Call}
use Rattle.records.specs.declared.call.Call.TheVariants.{Append, Amend, Settle, Word, NextHit, NextFinalHit, Trace, FinalHits, Close}
use Rattle.records.specs.declared.call.Reply.TheVariants.{Placed, Reworked, Word as Bears, Hit, Named, NotTaken}
use Rattle.records.specs.States.{Meaning, Terms, State, pattern_by}
use Rattle.records.specs.Refused.{granting, leaving}
use Rattle.records.specs.Books.{Book, Answer, blank, takes, entered, finals, overlaid, grant, reply_to, list_after, answer}
use Rattle.records.proofs.Asking.{first_same}
use Rattle.shifts.specs.Stands.{answered}
use Rattle.shifts.specs.Made.{Made, apt, next, answer_to, book_from, book_at}
use Rattle.shifts.specs.Promise.{Promise}
use Rattle.shifts.proofs.Chained.{nth_inside}
use Rattle.shifts.proofs.Determined.{answer_at, nth_ext, nth_some}

module _ {R : Type 0} (P : Pattern R) (space : ℕ) where
  -- the answers to calls from a book on
  abbrev pub answers_from : Book R → List (Made R) → List Answer
  answers_from b [] = []
  answers_from b (m ∷ ms) = answer_to P space b m ∷ answers_from (next P space b m) ms

  answers_long : (b : Book R) (ms : List (Made R)) → length (answers_from b ms) ≡ length ms
  answers_long b [] = refl
  answers_long b (m ∷ ms) = ap suc (answers_long (next P space b m) ms)

  answers_at : (b : Book R) (ms : List (Made R)) (i : ℕ) (m : Made R) → slice_get ms i ≡ Some m → slice_get (answers_from b ms) i ≡ Some (answer_to P space (book_from P space b (take i ms)) m)
  answers_at b [] i m e = let z : ◌≡◌ {A = ℕ} 0 1 = cc in absurd (omega arith)
  answers_at b (x ∷ ms) zero m e = let is : x ≡ m = cc in ap (λ (y : Made R). Some (answer_to P space b y)) is
  answers_at b (x ∷ ms) (suc i) m e = answers_at (next P space b x) ms i m e

-- the answers that the promise gives
pub said_all : {G E R : Type 0} (M : Meaning G E R) (T : Terms G) (ms : List (Made R)) (said : List Answer) (states : ℕ → State G E R) → Promise M T ms said states
    → said ≡ answers_from (pattern_by M T) T.room blank ms
said_all M T ms said states p = nth_ext said (answers_from (pattern_by M T) T.room blank ms) (p.each ∙ sym (answers_long (pattern_by M T) T.room blank ms)) (λ i a a' u v.
    let (m, call) = nth_some ms i (omega (arith, nth_inside said i a u, p.each)) in
    let w = answers_at (pattern_by M T) T.room blank ms i m call in
    let is : answer_to (pattern_by M T) T.room (book_at (pattern_by M T) T.room ms i) m ≡ a' = cc in
    answer_at M T ms said states p i m a call u ∙ is)

-- where two patterns have the same sets in their slots
module _ {R : Type 0} (f g : ℕ → R → Bool) (gs : List Gap) (same : (j : ℕ) → j ≤ length gs → (x : R) → f j x ≡ g j x) (space : ℕ) where
  abbrev P : Pattern R
  P = record { sets = f; gaps = gs }

  abbrev Q : Pattern R
  Q = record { sets = g; gaps = gs }

  marks : (xs : List R) (p : ℕ) → mark P xs (length gs) p ≡ mark Q xs (length gs) p
  marks xs p = mark_alike f g gs same xs (length gs) p (omega arith)

  finals_alike : (b : Book R) → finals P space b ≡ finals Q space b
  finals_alike b = kept_same (mark P b.readings (length gs)) (mark Q b.readings (length gs)) 0 b.line (λ k _ _. marks b.readings k)

  grant_alike : (b : Book R) (room : ℕ) (call : Call R) → grant P space b room call ≡ grant Q space b room call
  grant_alike b room (Append x) = refl
  grant_alike b room (Amend p x) = refl
  grant_alike b room (Settle n) = refl
  grant_alike b room (Word p) = refl
  grant_alike b room (NextHit p) = refl
  grant_alike b room (NextFinalHit p) = refl
  grant_alike b room (Trace p) = ap (λ (hit : Bool). tracing_by (length b.readings) (slots Q) hit p room) (marks b.readings p)
  grant_alike b room FinalHits = refl
  grant_alike b room Close = refl

  reply_alike : (b : Book R) (call : Call R) → reply_to P space b call ≡ reply_to Q space b call
  reply_alike b (Append x) = ap (λ (v : ℕ). Placed (record { place = length b.readings; word = v })) (word_alike f g gs same (b.readings ++ x ∷ []) (length b.readings))
  reply_alike b (Amend p x) = (λ i. Reworked (reworked (window gs) p (words_alike f g gs same b.readings i) (words_alike f g gs same (set b.readings p x) i)))
  reply_alike b (Settle n) = refl
  reply_alike b (Word p) = ap Bears (word_alike f g gs same b.readings p)
  reply_alike b (NextHit p) = ap Hit (first_same _ _ p (length b.readings - p) (λ k _ _. marks b.readings k))
  reply_alike b (NextFinalHit p) = ap Hit (first_same _ _ p (b.line - p) (λ k _ _. marks b.readings k))
  reply_alike b (Trace p) = refl
  reply_alike b FinalHits = ap (λ (hs : List ℕ). Named (length hs)) (finals_alike b)
  reply_alike b Close = refl

  list_alike : (b : Book R) (list : List ℕ) (call : Call R) → list_after P space b list call ≡ list_after Q space b list call
  list_alike b list (Append x) = refl
  list_alike b list (Amend p x) = refl
  list_alike b list (Settle n) = refl
  list_alike b list (Word p) = refl
  list_alike b list (NextHit p) = refl
  list_alike b list (NextFinalHit p) = refl
  list_alike b list (Trace p) = ap (λ (ps : List ℕ). ps ++ drop (slots Q) list) (trace_alike f g gs same b.readings p)
  list_alike b list FinalHits = ap (λ (hs : List ℕ). overlaid hs list) (finals_alike b)
  list_alike b list Close = refl

  answer_alike : (b : Book R) (m : Made R) → answer_to P space b m ≡ answer_to Q space b m
  answer_alike b m = ap (λ (x : Answer). cond (takes b.stage m.call) (cond (apt Q space m) x (answered (Err (OtherBuffers (length b.readings))) m.list)) (answered (Ok NotTaken) m.list)) inner
    where
      inner : answer P space b m.list m.call ≡ answer Q space b m.list m.call
      inner = (λ i. cond (takes b.stage m.call)
          (record { reply = granting (grant_alike b (length m.list) m.call i) (reply_alike b m.call i); list = leaving (grant_alike b (length m.list) m.call i) (list_alike b m.list m.call i) m.list }) (answered (Ok NotTaken) m.list))

  next_alike : (b : Book R) (m : Made R) → next P space b m ≡ next Q space b m
  next_alike b m = (λ i. cond (apt Q space m) (cond (takes b.stage m.call) (leaving (grant_alike b (length m.list) m.call i) (entered b m.call) b) b) b)

  pub answers_alike : (b : Book R) (ms : List (Made R)) → answers_from P space b ms ≡ answers_from Q space b ms
  answers_alike b [] = refl
  answers_alike b (m ∷ ms) =
      let rest : answers_from P space (next P space b m) ms ≡ answers_from Q space (next Q space b m) ms = answers_alike (next P space b m) ms ∙ ap (λ (d : Book R). answers_from Q space d ms) (next_alike b m) in
      (λ i. answer_alike b m i ∷ rest i)
