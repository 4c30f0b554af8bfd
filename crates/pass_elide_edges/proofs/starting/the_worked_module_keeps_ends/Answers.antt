use Rattle.pass_elide_edges.proofs.Worked.{worked_alone, worked_ends}
use Rattle.pass_elide_edges.proofs.starting.the_worked_module_keeps_ends.Goals as goal

pub returns-clause-ends : goal.returns-clause-ends
returns-clause-ends c = worked_ends

pub returns-clause-alone : goal.returns-clause-alone
returns-clause-alone c = worked_alone
