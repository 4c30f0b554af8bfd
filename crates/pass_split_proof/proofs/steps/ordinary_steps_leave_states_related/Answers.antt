use Rattle.pass_split_proof.proofs.steps.Ordinary.{steps_beside}
use Rattle.pass_split_proof.proofs.steps.ordinary_steps_leave_states_related.Goals as goal

pub returns : goal.returns
returns c = steps_beside
