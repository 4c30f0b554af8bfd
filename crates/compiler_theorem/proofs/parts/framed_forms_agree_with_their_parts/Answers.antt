use Rattle.compiler_theorem.proofs.parts.Agree.{framed_agrees}
use Rattle.compiler_theorem.proofs.parts.framed_forms_agree_with_their_parts.Goals as goal

pub returns : goal.returns
returns c = framed_agrees
