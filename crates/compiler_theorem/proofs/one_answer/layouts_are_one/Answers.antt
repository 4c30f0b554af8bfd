use Rattle.compiler_theorem.proofs.one_answer.Layouts.{layouts_one}
use Rattle.compiler_theorem.proofs.one_answer.layouts_are_one.Goals as goal

pub returns : goal.returns
returns c = layouts_one
