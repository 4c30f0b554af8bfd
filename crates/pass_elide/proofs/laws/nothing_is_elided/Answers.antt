use Rattle.pass_elide.proofs.Unchanged.{nothing}
use Rattle.pass_elide.proofs.laws.nothing_is_elided.Goals as goal

pub returns : goal.returns
returns c = nothing
