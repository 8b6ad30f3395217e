use Rattle.shifts.proofs.Worked.{worked}
use Rattle.shifts.proofs.laws.worked.Goals as goal

pub returns : goal.returns
returns g c = worked g.row.G.Denot g.row.E.Denot
