use Rattle.std.proofs.Common.{◌≡◌, length}
use Rattle.engines.specs.Masked.{Allows}
use Rattle.engines.proofs.windows.Windows.new.Given as goal

abbrev pub invariant-loop-j : goal.invariant-loop-j
invariant-loop-j l = (length l.allowed ≡ 31) × Allows l.gaps l.j l.allowed
