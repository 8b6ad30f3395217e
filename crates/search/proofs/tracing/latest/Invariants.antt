use Rattle.runs.specs.Signatures.{gaps_of}
use Rattle.runs.proofs.Places.{NoneTo}
use Rattle.search.specs.Traces.{sheet_marks}
use Rattle.search.proofs.tracing.latest.Given as goal

abbrev pub invariant-loop-between : goal.invariant-loop-between
invariant-loop-between l = NoneTo (gaps_of l.signature) (sheet_marks l.sheet) l.slot l.place l.between
