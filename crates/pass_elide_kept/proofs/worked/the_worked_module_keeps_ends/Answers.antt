use Rattle.pass_elide_kept.proofs.WorkedModule.{worked_ends}
use Rattle.pass_elide_kept.proofs.worked.the_worked_module_keeps_ends.Goals as goal

pub returns : goal.returns
returns c = worked_ends
