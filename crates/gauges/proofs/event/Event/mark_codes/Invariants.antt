use Rattle.std.proofs.Common.{◌≡◌, ℕ, ◌<◌, ◌≤◌, false, cond, eqb, length, get_or}
use Rattle.runs.specs.Bits.{bit}
use Rattle.gauges.proofs.event.Event.mark_codes.Given as goal

abbrev pub invariant-loop-code : goal.invariant-loop-code
invariant-loop-code l = (length l.entry-items ≡ 256) × ((c : ℕ) → c < l.code → (j : ℕ) → bit (get_or l.entry-items c 0) j ≡ cond (eqb j l.slot) (get_or l.codes.has c false) (bit (get_or l.fn.self.table c 0) j)) × ((c : ℕ) → l.code ≤ c → get_or l.entry-items c 0 ≡ get_or l.fn.self.table c 0)
