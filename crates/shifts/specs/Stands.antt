-- A record in either stage, and one call on it.
use Rattle.std.specs.Prelude.{◌≡◌, ℕ, true, false, List, Ok, Result}
use Rattle.text.specs.declared.refusal.Refusal.{Refusal}
use Rattle.records.specs.declared.Record.{Record}
use Rattle.records.specs.declared.call.Call.{Call}
use Rattle.records.specs.declared.call.Reply.{Reply}
use Rattle.records.specs.declared.call.Reply.TheVariants.{NotTaken}
use Rattle.records.specs.States.{Stage, opened, closed, Meaning, State, state}
use Rattle.records.specs.Books.{Answer, takes}
use Rattle.records.specs.Sound.{Keeps}
use Rattle.shifts.specs.declared.carrying.Kept.{Kept}
use Rattle.shifts.specs.declared.carrying.Kept.TheVariants.{Open, Closed}

abbrev pub standing : {G E R : Type 0} → Kept G E → List R → List ℕ → State G E R
standing (Open o) readings sheet = state opened o readings sheet
standing (Closed o) readings sheet = state closed o readings sheet

abbrev pub answered : Result Reply Refusal → List ℕ → Answer
answered reply list = record { reply = reply; list = list }

-- a call is kept by the book; one that the stage does not take leaves all as it is
pub record Obeys {G E R : Type 0} (M : Meaning G E R) (call : Call R) (list : List ℕ) (s : State G E R) (a : Answer) (t : State G E R) : Type 0 where
  pub keeps : Keeps M call list s a t
  pub untaken : takes s.stage call ≡ false → (a ≡ answered (Ok NotTaken) list) × (t ≡ s)

-- a question is obeyed in every stage; any other call is not taken
pub record Asks {G E R S : Type 0} (M : Meaning G E R) (call : Call R) (list : List ℕ) (o : Record G E S) (readings : List R) (sheet : List ℕ) (a : Answer) : Type 0 where
  pub asked : takes closed call ≡ true → (stage : Stage) → Keeps M call list (state stage o readings sheet) a (state stage o readings sheet)
  pub untaken : takes closed call ≡ false → a ≡ answered (Ok NotTaken) list
