-- The closing at the end of a shift.
use Rattle.std.proofs.Common.{◌≡◌, ℕ, Bool, true, false, List, [], Ok, sym, refl, ◌∙◌}
use Rattle.std.proofs.lemmas.Bool.{cond-true, cond-false, true≢false}
use Rattle.records.specs.declared.Record.{Record}
use Rattle.records.specs.declared.Closed.{Closed}
use Rattle.records.specs.declared.call.Call.TheVariants.{Close}
use Rattle.records.specs.declared.call.Reply.TheVariants.{NotTaken}
use Rattle.records.specs.States.{closed, Meaning, Terms, State, state, pattern_by}
use Rattle.records.specs.Books.{Book, Answer, takes, answer}
use Rattle.shifts.specs.Stands.{Obeys, answered}
use Rattle.shifts.specs.Made.{answer_to}
use Rattle.shifts.specs.Carried.{Carried}
use Rattle.shifts.specs.Replayed.{closing}
use Rattle.shifts.proofs.Asking.{obeys_closed}

module _ {G E R : Type 0} (M : Meaning G E R) where
  -- closing is lent no buffers, so it is carried out whatever was lent
  pub carried_close : (s t : State G E R) (a : Answer) → Obeys M Close [] s a t → Carried M closing s a t
  carried_close s t a o = record {
    sound = o.keeps.sound;
    right = λ T b h. o.keeps.right T b h ∙ taking T b (takes {R = R} b.stage Close) refl;
    refused = o.keeps.refused;
    untaken = λ e. (o.untaken e).1;
    asked = o.keeps.asked;
    behind = o.keeps.behind;
  }
    where
      taking : (T : Terms G) (b : Book R) (v : Bool) → takes {R = R} b.stage Close ≡ v → answer (pattern_by M T) T.room b [] Close ≡ answer_to (pattern_by M T) T.room b closing
      taking T b true f = sym (cond-true (takes {R = R} b.stage Close) _ _ f)
      taking T b false f = cond-false (takes {R = R} b.stage Close) _ _ f ∙ sym (cond-false (takes {R = R} b.stage Close) _ _ f)

  pub closed_already : (o : Record G E Closed) (readings : List R) (sheet : List ℕ) → Carried M closing (state closed o readings sheet) (answered (Ok NotTaken) []) (state closed o readings sheet)
  closed_already o readings sheet =
      carried_close (state closed o readings sheet) (state closed o readings sheet) _
      (obeys_closed M Close [] o readings sheet (answered (Ok NotTaken) []) (record { asked = λ e. absurd (true≢false (sym e)); untaken = λ _. refl }))
