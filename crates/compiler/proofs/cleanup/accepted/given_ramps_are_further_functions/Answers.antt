use Rattle.compiler.proofs.cleanup.accepted.Ramps.{has_functions_still}
use Rattle.compiler.proofs.cleanup.accepted.given_ramps_are_further_functions.Goals as goal

pub returns : goal.returns
returns c = has_functions_still
