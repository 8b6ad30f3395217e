use Rattle.shifts.proofs.Determined.{determined}
use Rattle.shifts.proofs.laws.determined.Goals as goal

pub returns : goal.returns
returns g c = determined g.row.G.Denot g.row.H.Denot g.row.E.Denot g.row.F.Denot g.row.R.Denot
