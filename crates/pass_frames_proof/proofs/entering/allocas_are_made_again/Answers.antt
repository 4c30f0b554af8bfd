use Rattle.pass_frames_proof.proofs.entering.Allocas.{to_the_last, up_to_next}
use Rattle.pass_frames_proof.proofs.entering.allocas_are_made_again.Goals as goal

pub returns-clause-next : goal.returns-clause-next
returns-clause-next c = up_to_next

pub returns-clause-last : goal.returns-clause-last
returns-clause-last c = to_the_last
