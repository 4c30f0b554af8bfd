use Rattle.pass_elide_lacks.proofs.WorkedEnds.{worked_endings}
use Rattle.pass_elide_lacks.proofs.worked.the_worked_module_keeps_endings.Goals as goal

pub returns : goal.returns
returns c = worked_endings
