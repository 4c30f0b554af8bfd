use Rattle.pass_split_proof.proofs.steps.Calls.{returns_related}
use Rattle.pass_split_proof.proofs.steps.returns_leave_states_related.Goals as goal

pub returns : goal.returns
returns c g h s t r v u a b w stands below others ws = returns_related g h s t r v u a b w stands below others ws
