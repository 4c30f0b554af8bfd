use Rattle.pass_frames_proof.proofs.waking.Entered.{entered_followed}
use Rattle.pass_frames_proof.proofs.waking.woken_coroutines_enter_at_once.Goals as goal

pub returns : goal.returns
returns c = entered_followed
