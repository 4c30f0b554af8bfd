use Rattle.compiler_theorem.proofs.theorem.frames_show_fields.Goals as goal
use Rattle.compiler_theorem.proofs.theorem.shown.Shown.{fields_shown}

pub returns : goal.returns
returns c = fields_shown
