use Rattle.compiler_theorem.proofs.rows.framed_forms_keep_meaning.Goals as goal
use Rattle.compiler_theorem.proofs.theorem.Whole.{frames_kept}

pub returns : goal.returns
returns c = frames_kept
