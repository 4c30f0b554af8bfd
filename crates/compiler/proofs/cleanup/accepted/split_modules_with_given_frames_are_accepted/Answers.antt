use Rattle.compiler.proofs.cleanup.accepted.Row.{given_accepted}
use Rattle.compiler.proofs.cleanup.accepted.split_modules_with_given_frames_are_accepted.Goals as goal

pub returns : goal.returns
returns c = given_accepted
