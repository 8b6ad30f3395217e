use Rattle.std.proofs.Common.{◌≡◌, ◌/◌, ◌^◌, ◌≤◌, arith, pow_mono}
use native.Mathlib.Nat.{div-eq_of_lt}
use Rattle.runs.proofs.bits.bears.Goals as goal

pub returns-else-slot-lt-BITS : goal.returns-else-slot-lt-BITS
returns-else-slot-lt-BITS c =
    let top : 2 ^ 32 ≤ 2 ^ c.args.slot = pow_mono c.if-slot-lt-BITS.false in
    let none : c.args.word / 2 ^ c.args.slot ≡ 0 = div-eq_of_lt (omega (arith, c.ranges.word)) in
    simp none (grind arith)
