use Rattle.pass_split_proof.proofs.simulation.Starts.{parts_start}
use Rattle.pass_split_proof.proofs.simulation.runs_of_parts_start_related.Goals as goal

pub returns : goal.returns
returns c = λ ls m p entry other args answers e. parts_start ls m p entry other args answers e
