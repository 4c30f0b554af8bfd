use Rattle.compiler_theorem.proofs.one_answer.Lowerings.{lowerings_one}
use Rattle.compiler_theorem.proofs.one_answer.lowerings_are_one.Goals as goal

pub returns : goal.returns
returns c = lowerings_one
