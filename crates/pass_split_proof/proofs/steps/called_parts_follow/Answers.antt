use Rattle.pass_split_proof.proofs.steps.WokenStates.{woken_followed}
use Rattle.pass_split_proof.proofs.steps.called_parts_follow.Goals as goal

pub returns : goal.returns
returns c = woken_followed
