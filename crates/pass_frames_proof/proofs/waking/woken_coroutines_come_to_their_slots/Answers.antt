use Rattle.pass_frames_proof.proofs.waking.Woken.{woken_followed}
use Rattle.pass_frames_proof.proofs.waking.woken_coroutines_come_to_their_slots.Goals as goal

pub returns : goal.returns
returns c = woken_followed
