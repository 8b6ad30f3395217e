use Rattle.std.proofs.Common.{◌≡◌, string_bytes, filter}
use Rattle.std.specs.List.{range_with_len}
use Rattle.search.specs.Traces.{sheet_hit, trace_of}
use Rattle.job.specs.Printed.{hit_lines}
use Rattle.job.proofs.report.report_text.Given as goal

-- the lines of the hits below this place
abbrev pub invariant-loop-place : goal.invariant-loop-place
invariant-loop-place l = string_bytes l.text ≡ hit_lines (trace_of l.signature l.sheet) (filter (sheet_hit l.signature l.sheet) (range_with_len 0 l.place))
