use Rattle.pass_split_proof.proofs.steps.Entered.{calls_related}
use Rattle.pass_split_proof.proofs.steps.calls_leave_states_related.Goals as goal

pub returns : goal.returns
returns c = calls_related
