use Rattle.compiler.proofs.cleanup.accepted.Ramps.{has_given_ramps}
use Rattle.compiler.proofs.cleanup.accepted.split_modules_have_the_given_ramps.Goals as goal

pub returns : goal.returns
returns c = has_given_ramps
