-- The first entries of a list that a trace was written into.
use Rattle.std.proofs.Common.{◌≡◌, ℕ, ◌<◌, ◌≤◌, true, List, length, take, drop, Ok, sym, ap, ◌∙◌, arith}
use lib.Seq.{take-append-le}
use Rattle.std.proofs.lemmas.List.{take_all}
use Rattle.std.proofs.lemmas.Bool.Decides.{nat_tests}
use Rattle.runs.specs.declared.signature.Signature.{Signature}
use Rattle.search.specs.Traces.{sheet_hit, trace_of, tracing, places_from, places_after}
use Rattle.search.proofs.Back.{trace_size}

module _ (s : Signature) (sheet : List ℕ) (end : ℕ) (old : List ℕ) (hit : sheet_hit s sheet end ≡ true) (room : s.slots ≤ length old) where
  granted : Ok tt ≡ tracing s sheet end (length old)
  granted = grind (arith, nat_tests)

  pub listed : take s.slots (places_after s sheet end old) ≡ trace_of s sheet end
  listed =
      let some : 0 < s.slots = grind (arith, nat_tests) in
      let size = trace_size s sheet end some in
      ap (λ (ps : List ℕ). take s.slots ps) (sym (ap (places_from s sheet end old) granted))
      ∙ take-append-le s.slots (trace_of s sheet end) (drop s.slots old) (omega arith)
      ∙ take_all s.slots (trace_of s sheet end) (omega arith)
