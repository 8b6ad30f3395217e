-- A list of calls, carried out one after another.
use Rattle.std.specs.Prelude.{◌≡◌, ℕ, suc, List, Some}
use Rattle.std.specs.List.{slice_get}
use Rattle.records.specs.States.{Meaning, State}
use Rattle.records.specs.Books.{Answer}
use Rattle.shifts.specs.Made.{Made}
use Rattle.shifts.specs.Carried.{Carried}

-- the first n calls lead from the state s to another, with these answers
pub data Chain {G E R : Type 0} (M : Meaning G E R) (ms : List (Made R)) (answers : List Answer) (s : State G E R) : ℕ → State G E R → Type 0 where
  none : Chain M ms answers s 0 s
  more : {n : ℕ} {t u : State G E R} {m : Made R} {a : Answer} → Chain M ms answers s n t → slice_get ms n ≡ Some m → slice_get answers n ≡ Some a → Carried M m t a u
      → Chain M ms answers s (suc n) u
