use Rattle.std.proofs.Common.{◌≡◌, ℕ, List, length, IfOk, string_bytes, ap, subst}
use Rattle.events.specs.Searches.{searchable}
use Rattle.job.specs.Jobs.{found, printed, job_text}
use Rattle.job.specs.Printed.{text_of_refusal}
use Rattle.job.proofs.run.run_job.Goals as goal

pub returns-in_ok-sheet-in-Ok : goal.returns-in_ok-sheet-in-Ok
unfolding job_text
returns-in_ok-sheet-in-Ok c =
    let parts = c.in-Ok.parts in
    let is = ap printed c.in-Ok.ensures in
    let said : IfOk c.run_parts.result (λ t. string_bytes t ≡ found parts.codes.now (searchable 64 parts.text.now (length parts.codes.now) (length parts.codes.now))) = c.run_parts.ensures in
    subst (λ (bs : List ℕ). IfOk c.run_parts.result (λ t. string_bytes t ≡ bs)) is said

pub returns-in-Err : goal.returns-in-Err
unfolding job_text
returns-in-Err c =
    let is = ap printed c.in-Err.ensures in
    let said : IfOk c.refusal_text.result (λ t. string_bytes t ≡ text_of_refusal c.in-Err.refusal) = c.refusal_text.ensures in
    subst (λ (bs : List ℕ). IfOk c.refusal_text.result (λ t. string_bytes t ≡ bs)) is said
