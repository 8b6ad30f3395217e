use Rattle.search.proofs.Told.{told}
use Rattle.search.proofs.laws.sheets_tell.Goals as goal

pub returns : goal.returns
returns g c = told
