use Rattle.compiler_theorem.proofs.one_answer.Forms.{forms_one}
use Rattle.compiler_theorem.proofs.one_answer.framed_forms_are_one.Goals as goal

pub returns : goal.returns
returns c = forms_one
