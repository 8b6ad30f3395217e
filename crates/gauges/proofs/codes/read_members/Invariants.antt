use Rattle.std.proofs.Common.{◌-◌, length}
use Rattle.gauges.proofs.Members.{Sofar}
use Rattle.gauges.proofs.codes.read_members.Given as goal

abbrev pub invariant-loop-member : goal.invariant-loop-member
invariant-loop-member l = Sofar l.close l.text l.at l.place l.codes.has

abbrev pub decreases-loop-member : goal.decreases-loop-member
decreases-loop-member l = length l.text - l.place
