use Rattle.pass_split_proof.proofs.simulation.Started.{starts_related}
use Rattle.pass_split_proof.proofs.simulation.runs_start_related.Goals as goal

pub returns : goal.returns
returns c = starts_related
