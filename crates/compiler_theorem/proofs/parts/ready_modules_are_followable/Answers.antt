use Rattle.compiler_theorem.proofs.parts.Followable.{followable}
use Rattle.compiler_theorem.proofs.parts.ready_modules_are_followable.Goals as goal

pub returns : goal.returns
returns c = followable
