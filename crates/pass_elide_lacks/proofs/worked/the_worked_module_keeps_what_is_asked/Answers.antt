use Rattle.pass_elide_lacks.proofs.WorkedAsked.{worked_asked}
use Rattle.pass_elide_lacks.proofs.worked.the_worked_module_keeps_what_is_asked.Goals as goal

pub returns : goal.returns
returns c = worked_asked
