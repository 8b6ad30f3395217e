use Rattle.std.proofs.Common.{◌≡◌, ℕ, List, ◌++◌, length, IfOk, string_bytes, sym, subst}
use Rattle.search.specs.Traces.{hits_of, trace_of}
use Rattle.events.specs.Searches.{searchable}
use Rattle.job.specs.Jobs.{found}
use Rattle.job.specs.Printed.{hit_lines, last_line}
use Rattle.job.proofs.Plans.{printed_hits}
use Rattle.job.proofs.run.run_parts.Goals as goal

pub returns-in-Ok : goal.returns-in-Ok
returns-in-Ok c =
    let xs = c.args.codes.now in
    let before = c.args.sheet.now in
    let s = c.search_codes.new.signature in
    let sheet = c.search_codes.new.sheet in
    let told = c.in-Ok.ensures in
    let is = printed_hits xs before (searchable 64 c.args.text.now (length xs) (length before)) c.in-Ok.count s sheet told.value told.sheet told.signature in
    let said : IfOk c.report_text.result (λ t. string_bytes t ≡ hit_lines (trace_of s sheet) (hits_of s sheet) ++ last_line c.in-Ok.count (length sheet)) = c.report_text.ensures in
    let whole = subst (λ (bs : List ℕ). IfOk c.report_text.result (λ t. string_bytes t ≡ bs)) is said in
    subst (λ (n : ℕ). IfOk c.report_text.result (λ t. string_bytes t ≡ found xs (searchable 64 c.args.text.now (length xs) n))) (sym c.requires) whole
