use Rattle.compiler.proofs.cleanup.cleanable.Whole.{given_cleanable}
use Rattle.compiler.proofs.cleanup.cleanable.split_modules_with_given_frames_are_cleanable.Goals as goal

pub returns : goal.returns
returns c = given_cleanable
