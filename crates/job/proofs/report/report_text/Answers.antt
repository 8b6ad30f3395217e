use Rattle.std.proofs.Common.{ℕ, List, ◌++◌, string_bytes, sym, ap, ◌∙◌}
use Rattle.search.specs.Traces.{sheet_hit, trace_of}
use Rattle.job.specs.Printed.{hit_line}
use Rattle.job.proofs.Lines.{lines_hit, lines_none}
use Rattle.job.proofs.report.report_text.Goals as goal
use Rattle.job.proofs.report.report_text.Goals.{then-is_hit+in_ok-push_hit, else-is_hit}

pub loop-place-preserved : goal.loop-place-preserved
loop-place-preserved c =
    let s = c.args.signature.now in
    let sheet = c.args.sheet.now in
    let p = c.loop-place.place in
    let line : List ℕ = hit_line p (trace_of s sheet p) in
    elim c.if-is_hit.branch [
      | then-is_hit+in_ok-push_hit w ↦
          ap string_bytes w.text-is ∙ w.in_ok-push_hit.ensures ∙ ap (λ (t : List ℕ). t ++ line) c.loop-place.invariant ∙ sym (lines_hit (trace_of s sheet) (sheet_hit s sheet) p (sym w.if-is_hit.ensures))
      | else-is_hit w ↦ ap string_bytes w.text-is ∙ c.loop-place.invariant ∙ sym (lines_none (trace_of s sheet) (sheet_hit s sheet) p (sym w.if-is_hit.ensures))
    ]
