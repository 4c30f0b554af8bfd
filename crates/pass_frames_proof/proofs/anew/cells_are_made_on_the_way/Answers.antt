use Rattle.pass_frames_proof.proofs.anew.Cells.{made_on, none_made}
use Rattle.pass_frames_proof.proofs.anew.cells_are_made_on_the_way.Goals as goal

pub returns-clause-first : goal.returns-clause-first
returns-clause-first c = none_made

pub returns-clause-on : goal.returns-clause-on
returns-clause-on c = made_on
