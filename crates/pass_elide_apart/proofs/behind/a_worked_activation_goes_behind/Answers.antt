use Rattle.pass_elide_apart.proofs.Worked.{worked_goes}
use Rattle.pass_elide_apart.proofs.behind.a_worked_activation_goes_behind.Goals as goal

pub returns : goal.returns
returns c = worked_goes
