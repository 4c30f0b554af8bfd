use Rattle.pass_frames_proof.proofs.ramps.Allocas.{allocas_in_front}
use Rattle.pass_frames_proof.proofs.ramps.entries_have_their_allocas.Goals as goal

pub returns : goal.returns
returns c = allocas_in_front
