use Rattle.compiler.proofs.fit.Accepted.{accepted_good}
use Rattle.compiler.proofs.fit.layouts_of_accepted_sources_are_good.Goals as goal

pub returns : goal.returns
returns c = accepted_good
