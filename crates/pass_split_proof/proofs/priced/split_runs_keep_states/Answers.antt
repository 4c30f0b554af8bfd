use Rattle.pass_split_proof.proofs.priced.Whole.{splits_keep}
use Rattle.pass_split_proof.proofs.priced.split_runs_keep_states.Goals as goal

pub returns : goal.returns
returns c = splits_keep
