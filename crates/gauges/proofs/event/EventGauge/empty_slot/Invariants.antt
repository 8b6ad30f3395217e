use Rattle.std.proofs.Common.{◌≡◌, ℕ, ◌<◌, ◌≤◌, false, cond, eqb, length, get_or}
use Rattle.runs.specs.Bits.{bit}
use Rattle.gauges.proofs.event.EventGauge.empty_slot.Given as goal

abbrev pub invariant-loop-entry : goal.invariant-loop-entry
invariant-loop-entry l = (length l.entry-items ≡ 256) × ((c : ℕ) → c < l.entry-index → (j : ℕ) → bit (get_or l.entry-items c 0) j ≡ cond (eqb j l.slot) false (bit (get_or l.fn.self.table c 0) j)) × ((c : ℕ) → l.entry-index ≤ c → get_or l.entry-items c 0 ≡ get_or l.fn.self.table c 0)
