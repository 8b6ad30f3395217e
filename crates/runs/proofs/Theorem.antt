-- All the laws.
use Rattle.std.proofs.Common.{◌++◌, length, set, arith}
use Rattle.runs.specs.Laws.{Laws}
use Rattle.runs.proofs.Nth.{nth_set, nth_append}
use Rattle.runs.proofs.Marked.{marks}
use Rattle.runs.proofs.Worded.{told}
use Rattle.runs.proofs.Local.{within_run}
use Rattle.runs.proofs.Listed.{found}
use Rattle.runs.proofs.Stopped.{felt, counted}
use Rattle.runs.proofs.Traced.{traces, final}

pub laws : {R : Type 0} → Laws R
laws = record {
  marks = marks;
  told = told;
  found = found;
  felt = felt;
  counted = counted;
  traces = traces;
  within = λ P xs p ps r end h l. omega (arith, within_run P xs p ps r end h l);
  final = final;
  amended = λ P xs line p v l. final P xs (set xs p v) line (λ k b. nth_set xs p v k (omega arith));
  appended = λ P xs ys. final P xs (xs ++ ys) (length xs) (nth_append xs ys);
}
