use Rattle.pass_frames_proof.proofs.ramps.Front.{entry_front}
use Rattle.pass_frames_proof.proofs.ramps.entries_have_their_fronts.Goals as goal

pub returns : goal.returns
returns c = entry_front
