use Rattle.pass_split_proof.proofs.states.Saved.{saves}
use Rattle.pass_split_proof.proofs.states.coroutines_are_saved_beside.Goals as goal

pub returns : goal.returns
returns c = saves
