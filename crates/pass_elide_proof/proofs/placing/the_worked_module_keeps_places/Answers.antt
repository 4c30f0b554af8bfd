use Rattle.pass_elide_proof.proofs.PlacingWorked.{worked_keeps}
use Rattle.pass_elide_proof.proofs.placing.the_worked_module_keeps_places.Goals as goal

pub returns : goal.returns
returns c = worked_keeps
