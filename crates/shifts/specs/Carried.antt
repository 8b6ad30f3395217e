-- One call of a shift.
use Rattle.std.specs.Prelude.{◌≡◌, true, false, drop, is_err, Some, vec_items, Result}
use Rattle.text.specs.declared.refusal.Refusal.{Refusal}
use Rattle.records.specs.declared.call.Reply.{Reply}
use Rattle.records.specs.States.{closed, Meaning, Terms, State, pattern_by}
use Rattle.records.specs.Books.{Book, Answer, takes}
use Rattle.records.specs.Sound.{Sound}
use Rattle.shifts.specs.declared.request.Request.{Request}
use Rattle.shifts.specs.Stands.{answered}
use Rattle.shifts.specs.Made.{Made, next, answer_to}

-- a call from s to t, answered by a
pub record Carried {G E R : Type 0} (M : Meaning G E R) (m : Made R) (s : State G E R) (a : Answer) (t : State G E R) : Type 0 where
  -- by any book that s stands for: t stands for the book after the call, and the answer is the book's
  pub sound : (T : Terms G) (b : Book R) → Sound M T b s → Sound M T (next (pattern_by M T) T.room b m) t
  pub right : (T : Terms G) (b : Book R) → Sound M T b s → a ≡ answer_to (pattern_by M T) T.room b m
  -- a call that is refused or not taken leaves everything as it was, a question the record and its buffers
  pub refused : is_err a.reply ≡ true → (t ≡ s) × (a.list ≡ m.list)
  pub untaken : takes s.stage m.call ≡ false → t ≡ s
  pub asked : takes closed m.call ≡ true → t ≡ s
  -- behind the readings both buffers are as they were
  pub behind : (drop t.count t.readings ≡ drop t.count s.readings) × (drop t.count t.sheet ≡ drop t.count s.sheet)

abbrev pub made_of : {R : Type 0} → Request R → Made R
made_of q = record { call = q.call; list = vec_items q.list; lent = q.lent }

-- a request after its call: as it was made, and answered
pub record Filled {R : Type 0} (before after : Request R) (reply : Result Reply Refusal) : Type 0 where
  pub call : after.call ≡ before.call
  pub lent : after.lent ≡ before.lent
  pub answer : after.answer ≡ Some reply

-- the call of a request is carried out, and the answer written down
abbrev pub Carries : {G E R : Type 0} → Meaning G E R → Request R → State G E R → Request R → State G E R → Type 0
Carries M before s after t = (reply : Result Reply Refusal) × Filled before after reply × Carried M (made_of before) s (answered reply (vec_items after.list)) t
