use Rattle.std.proofs.Common.{◌≡◌, ℕ, ◌<◌, ◌≤◌, false, not, get_or}
use Rattle.gauges.proofs.code_set.Codes.turn.Given as goal

abbrev pub invariant-loop-has : goal.invariant-loop-has
invariant-loop-has l = ((c : ℕ) → c < l.has-index → get_or l.has-items c false ≡ not (get_or l.fn.self.has c false)) × ((c : ℕ) → l.has-index ≤ c → get_or l.has-items c false ≡ get_or l.fn.self.has c false)
