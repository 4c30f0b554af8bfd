use Rattle.compiler_theorem.proofs.one_answer.Refusals.{refusals_one}
use Rattle.compiler_theorem.proofs.one_answer.refusals_are_one.Goals as goal

pub returns : goal.returns
returns c = refusals_one
