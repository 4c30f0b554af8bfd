use Rattle.pass_split_proof.proofs.simulation.Assembly.{followed_keep}
use Rattle.pass_split_proof.proofs.simulation.followed_steps_keep_states.Goals as goal

pub returns : goal.returns
returns c = followed_keep
