use Rattle.pass_split_proof.proofs.whole.Starts.{starts_know}
use Rattle.pass_split_given.proofs.whole.runs_start_knowing.Goals as goal

pub returns : goal.returns
returns c = starts_know
