-- A whole shift: from the opening, over its calls, to the closing.
use Rattle.std.specs.Prelude.{◌≡◌, ℕ, suc, List, [], ◌∷◌, ◌++◌, map, length, Some, None, Ok, vec_items, Option, Result}
use Rattle.std.specs.List.{slice_get}
use Rattle.text.specs.declared.refusal.Refusal.{Refusal}
use Rattle.runs.specs.declared.signature.Signature.{Signature}
use Rattle.records.specs.declared.Record.{Record}
use Rattle.records.specs.declared.Closed.{Closed}
use Rattle.records.specs.declared.call.Call.TheVariants.{Close}
use Rattle.records.specs.declared.call.Reply.{Reply}
use Rattle.records.specs.declared.call.Reply.TheVariants.{NotTaken}
use Rattle.records.specs.declared.opening.Unopened.{Unopened}
use Rattle.records.specs.States.{closed, Meaning, State, state}
use Rattle.records.specs.Books.{Answer}
use Rattle.records.specs.Opened.{Begun, Unmade, terms}
use Rattle.shifts.specs.declared.carrying.Kept.{Kept}
use Rattle.shifts.specs.declared.request.Request.{Request}
use Rattle.shifts.specs.Stands.{standing, answered}
use Rattle.shifts.specs.Made.{Made}
use Rattle.shifts.specs.Carried.{Carried, Filled, made_of}
use Rattle.shifts.specs.Promise.{Promise}

-- what a request's answer is, once it was made
abbrev pub given : Option (Result Reply Refusal) → Result Reply Refusal
given (Some r) = r
given None = Ok NotTaken

abbrev pub answer_of : {R : Type 0} → Request R → Answer
answer_of q = answered (given q.answer) (vec_items q.list)

-- the closing at the end of a shift
abbrev pub closing : {R : Type 0} → Made R
closing = record { call = Close; list = []; lent = 0 }

abbrev pub shift_of : {R : Type 0} → List (Request R) → List (Made R)
shift_of requests = map made_of requests ++ closing ∷ []

-- a record in either stage is closed, with any buffers
abbrev pub Ends : {G E R : Type 0} → Meaning G E R → Kept G E → Record G E Closed → Type 0
Ends {R = R} M k o = (readings : List R) (sheet : List ℕ) → (a : Answer) × Carried M closing (standing k readings sheet) a (state closed o readings sheet)

-- the request is as it was made, and answered
abbrev pub Asked : {R : Type 0} → Request R → Request R → Type 0
Asked before after = (reply : Result Reply Refusal) × Filled before after reply

-- There are states from the opening to the closed record, one after each call, and an answer to the closing, that keep the promise.
pub record Replayed {G E R : Type 0} (M : Meaning G E R) (limit : ℕ) (gauge : G) (signature : Signature) (readings : List R) (sheet : List ℕ) (before after : List (Request R))
    (o : Record G E Closed) (readings' : List R) (sheet' : List ℕ) : Type 0 where
  pub states : ℕ → State G E R
  pub last : Answer
  pub begun : Begun M limit gauge signature readings sheet (states 0)
  pub ended : states (suc (length before)) ≡ state closed o readings' sheet'
  pub promise : Promise M (terms gauge signature readings) (shift_of before) (map answer_of after ++ last ∷ []) states
  pub requests : (k : ℕ) (q q' : Request R) → slice_get before k ≡ Some q → slice_get after k ≡ Some q' → Asked q q'

-- the opening is refused, and nothing was written
pub record UnopenedShift {G E R : Type 0} (limit : ℕ) (gauge : G) (engine : E) (signature : Signature) (readings : List R) (sheet : List ℕ) (before after : List (Request R))
    (readings' : List R) (sheet' : List ℕ) (u : Unopened G E) : Type 0 where
  pub unmade : Unmade limit gauge engine signature readings sheet u
  pub same_readings : readings' ≡ readings
  pub same_sheet : sheet' ≡ sheet
  pub same_requests : after ≡ before
