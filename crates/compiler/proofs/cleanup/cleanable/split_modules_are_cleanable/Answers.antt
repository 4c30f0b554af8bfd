use Rattle.compiler.proofs.cleanup.cleanable.Whole.{split_cleanable}
use Rattle.compiler.proofs.cleanup.cleanable.split_modules_are_cleanable.Goals as goal

pub returns : goal.returns
returns c = split_cleanable
