use Rattle.pass_elide.proofs.Unchanged.{become}
use Rattle.pass_elide.proofs.laws.functions_become.Goals as goal

pub returns : goal.returns
returns c = become
