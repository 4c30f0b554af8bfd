use Rattle.pass_elide.proofs.Unchanged.{many}
use Rattle.pass_elide.proofs.laws.functions_are_as_many.Goals as goal

pub returns : goal.returns
returns c = many
