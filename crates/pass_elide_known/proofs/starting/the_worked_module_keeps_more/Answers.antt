use Rattle.pass_elide_known.proofs.WorkedMore.{worked_more}
use Rattle.pass_elide_known.proofs.starting.the_worked_module_keeps_more.Goals as goal

pub returns : goal.returns
returns c = worked_more
