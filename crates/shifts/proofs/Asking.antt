-- A question through its call.
use Rattle.std.proofs.Common.{◌≡◌, ℕ, Bool, true, false, List, IsOkAnd, Ok, Err, MatchResult, Result, sym, refl, ap, ◌∙◌, subst}
use Rattle.std.proofs.lemmas.Bool.{both_ways, true≢false, cond-false}
use Rattle.text.specs.declared.refusal.Refusal.{Refusal}
use Rattle.records.specs.declared.Record.{Record}
use Rattle.records.specs.declared.call.Call.{Call}
use Rattle.records.specs.declared.call.Call.TheVariants.{Append, Amend, Settle, Word, NextHit, NextFinalHit, Trace, FinalHits, Close}
use Rattle.records.specs.declared.call.Reply.{Reply}
use Rattle.records.specs.declared.call.Reply.TheVariants.{NotTaken}
use Rattle.records.specs.declared.Closed.{Closed}
use Rattle.records.specs.States.{Stage, opened, closed, Meaning, Terms, State, state}
use Rattle.records.specs.Books.{Book, Answer, takes, lends}
use Rattle.records.specs.Sound.{Sound, Keeps, Keeping, replied}
use Rattle.shifts.specs.Stands.{Asks, Obeys, answered}

pub asks_by : {G E R S : Type 0} (M : Meaning G E R) (call call' : Call R) (list : List ℕ) (o : Record G E S) (readings : List R) (sheet : List ℕ) (a : Answer)
    → call ≡ call' → takes closed call' ≡ true → ((stage : Stage) → Keeps M call' list (state stage o readings sheet) a (state stage o readings sheet))
    → Asks M call list o readings sheet a
asks_by M call call' list o readings sheet a is yes' keeps =
    subst (λ (c : Call _). Asks M c list o readings sheet a) (sym is)
    (record { asked = λ _ stage. keeps stage; untaken = λ no'. absurd (both_ways (takes closed call') no' yes') })

-- a call's own answer, mapped to a reply
pub replied_by : {V : Type 0} {post : V → Reply → Type 0} (f : V → Reply) (r : Result V Refusal) (a : Result Reply Refusal)
    → MatchResult r (λ x. IsOkAnd a (post x)) (λ e. a ≡ Err e) → ((x : V) (y : Reply) → post x y → y ≡ f x) → a ≡ replied f r
replied_by f (Ok v) (Ok y) c same = ap Ok (same v y c)
replied_by f (Ok v) (Err e) c same = absurd c
replied_by f (Err e) a c same = c

pub asks_mapped : {G E R S V : Type 0} (M : Meaning G E R) (call call' : Call R) (list list' : List ℕ) (o : Record G E S) (readings : List R) (sheet : List ℕ) (f : V → Reply) (r : Result V Refusal)
    (a : Result Reply Refusal) → call ≡ call' → takes closed call' ≡ true → a ≡ replied f r
    → ((stage : Stage) → Keeps M call' list (state stage o readings sheet) (answered (replied f r) list') (state stage o readings sheet)) → Asks M call list o readings sheet (answered a list')
asks_mapped M call call' list list' o readings sheet f r a is yes' same keeps = rw same (asks_by M call call' list o readings sheet (answered (replied f r) list') is yes' keeps)

-- the same call under another name
pub keeps_of : {G E R : Type 0} (M : Meaning G E R) (call call' : Call R) (list : List ℕ) (s t : State G E R) (a : Answer) → call ≡ call' → Keeps M call' list s a t → Keeps M call list s a t
keeps_of M call call' list s t a is = subst (λ (c : Call _). Keeps M c list s a t) (sym is)

pub keeps_mapped : {G E R V : Type 0} (M : Meaning G E R) (call call' : Call R) (list : List ℕ) (s t : State G E R) (f : V → Reply) (r : Result V Refusal) (a : Result Reply Refusal) → call ≡ call'
    → a ≡ replied f r → Keeping M call' s f r t → Keeps M call list s (answered a list) t
keeps_mapped M call call' list s t f r a is same keeps = rw same (keeps_of M call call' list s t (answered (replied f r) list) is (keeps list))

-- a call that is not closing, appending, amending or settling is a question
pub question_of : {R : Type 0} (call : Call R) → lends call ≡ true → ((x : R) → call ≡ Append x → ⊥) → ((p : ℕ) (x : R) → call ≡ Amend p x → ⊥) → ((n : ℕ) → call ≡ Settle n → ⊥) → takes closed call ≡ true
question_of (Append x) l a b c = absurd (a x refl)
question_of (Amend p x) l a b c = absurd (b p x refl)
question_of (Settle n) l a b c = absurd (c n refl)
question_of (Word p) l a b c = refl
question_of (NextHit p) l a b c = refl
question_of (NextFinalHit p) l a b c = refl
question_of (Trace p) l a b c = refl
question_of FinalHits l a b c = refl
question_of Close l a b c = absurd (true≢false (sym l))

module _ {G E R : Type 0} (M : Meaning G E R) (call : Call R) (list : List ℕ) where
  -- a closed record does not take the call
  untaken_keeps : (s : State G E R) → s.stage ≡ closed → takes closed call ≡ false → Keeps M call list s (answered (Ok NotTaken) list) s
  untaken_keeps s stage no' = record {
    sound = λ T b h. subst (λ (d : Book R). Sound M T d s) (sym (cond-false (takes b.stage call) _ b (shut T b h))) h;
    right = λ T b h. sym (cond-false (takes b.stage call) _ (answered (Ok NotTaken) list) (shut T b h));
    refused = λ e. absurd (true≢false (sym e));
    asked = λ yes'. absurd (both_ways (takes closed call) no' yes');
    other = λ yes'. absurd (both_ways (takes closed call) no' (subst (λ (st : Stage). takes st call ≡ true) stage yes'));
    behind = (refl, refl);
  }
    where
      shut : (T : Terms G) (b : Book R) → Sound M T b s → takes b.stage call ≡ false
      shut T b h = ap (λ (st : Stage). takes st call) (sym h.stage ∙ stage) ∙ no'

  pub obeys_closed : (o : Record G E Closed) (readings : List R) (sheet : List ℕ) (a : Answer) → Asks M call list o readings sheet a → Obeys M call list (state closed o readings sheet) a (state closed o readings sheet)
  obeys_closed o readings sheet a asks = go (takes closed call) refl
    where
      go : (b : Bool) → takes closed call ≡ b → Obeys M call list (state closed o readings sheet) a (state closed o readings sheet)
      go true e = record { keeps = asks.asked e closed; untaken = λ no'. absurd (both_ways (takes closed call) no' e) }
      go false e = record {
        keeps = subst (λ (x : Answer). Keeps M call list (state closed o readings sheet) x (state closed o readings sheet)) (sym (asks.untaken e)) (untaken_keeps (state closed o readings sheet) refl e);
        untaken = λ _. (asks.untaken e, refl);
      }

  pub obeys_opened : (s t : State G E R) (a : Answer) → s.stage ≡ opened → Keeps M call list s a t → Obeys M call list s a t
  obeys_opened s t a stage keeps = record { keeps = keeps; untaken = λ no'. absurd (both_ways (takes opened call) (subst (λ (st : Stage). takes st call ≡ false) stage no') refl) }
