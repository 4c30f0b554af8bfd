use Rattle.compiler_theorem.proofs.rows.framed_forms_agree_with_what_is_printed.Goals as goal
use Rattle.compiler_theorem.proofs.theorem.Whole.{printed_within}

pub returns : goal.returns
returns c = printed_within
