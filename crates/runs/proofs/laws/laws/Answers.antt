use Rattle.runs.proofs.Theorem.{laws}
use Rattle.runs.proofs.laws.laws.Goals as goal

pub returns : goal.returns
returns g c = laws
