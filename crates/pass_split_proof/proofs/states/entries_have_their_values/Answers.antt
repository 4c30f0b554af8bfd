use Rattle.pass_split_proof.proofs.states.Values.{entries_stand}
use Rattle.pass_split_proof.proofs.states.entries_have_their_values.Goals as goal

pub returns : goal.returns
returns c = entries_stand
