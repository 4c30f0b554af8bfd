use Rattle.pass_elide.proofs.Unchanged.{same-names}
use Rattle.pass_elide.proofs.laws.names_of_functions_stay.Goals as goal

pub returns : goal.returns
returns c = same-names
