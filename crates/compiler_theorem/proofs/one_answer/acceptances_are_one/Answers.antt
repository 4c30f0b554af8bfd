use Rattle.compiler_theorem.proofs.one_answer.Refusals.{acceptances_one}
use Rattle.compiler_theorem.proofs.one_answer.acceptances_are_one.Goals as goal

pub returns : goal.returns
returns c = acceptances_one
