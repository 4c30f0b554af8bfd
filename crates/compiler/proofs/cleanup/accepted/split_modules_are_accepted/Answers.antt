use Rattle.compiler.proofs.cleanup.accepted.Row.{split_accepted}
use Rattle.compiler.proofs.cleanup.accepted.split_modules_are_accepted.Goals as goal

pub returns : goal.returns
returns c = split_accepted
