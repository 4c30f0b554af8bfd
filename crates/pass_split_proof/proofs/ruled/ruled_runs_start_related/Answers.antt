use Rattle.pass_split_proof.proofs.simulation.Starts.{parts_start}
use Rattle.pass_split_proof.proofs.ruled.ruled_runs_start_related.Goals as goal

pub returns : goal.returns
returns c = λ stage r ls m p entry other args answers e. parts_start ls m p entry other args answers e
