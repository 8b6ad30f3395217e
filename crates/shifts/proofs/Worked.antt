-- The worked shift's answers.
use Rattle.std.proofs.Common.{◌≡◌, ℕ, List, refl, ap, ◌∙◌}
use Rattle.runs.specs.declared.gap.Gap.{Gap}
use Rattle.runs.specs.Sheets.{pair}
use Rattle.runs.specs.Words.{before, mark, word, trace, reworked}
use Rattle.records.specs.States.{pattern_by}
use Rattle.records.specs.Books.{blank}
use Rattle.shifts.specs.Worked.{worked_shift, worked_outcome, Worked}
use Rattle.shifts.proofs.Patterned.{answers_from, answers_alike, said_all}

computed : answers_from pair 8 blank worked_shift ≡ worked_outcome
unfolding before mark word trace reworked
computed = refl

pub worked : (G E : Type 0) → Worked G E
worked G E M T said states room gaps sets p =
    said_all M T worked_shift said states p
    ∙ ap (λ (n : ℕ). answers_from (pattern_by M T) n blank worked_shift) room
    ∙ ap (λ (gs : List Gap). answers_from (record { sets = M.sets T.gauge; gaps = gs }) 8 blank worked_shift) gaps
    ∙ answers_alike (M.sets T.gauge) pair.sets pair.gaps (λ j l x. sets j l x) 8 blank worked_shift
    ∙ computed
