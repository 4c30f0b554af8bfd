use Rattle.pass_elide_proof.proofs.Starts.{starts}
use Rattle.pass_elide_proof.proofs.starting.runs_start_beside_each_other.Goals as goal

pub returns : goal.returns
returns c = starts
