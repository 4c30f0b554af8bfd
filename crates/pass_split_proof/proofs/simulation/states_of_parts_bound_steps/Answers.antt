use Rattle.pass_split_proof.proofs.simulation.Agreement.{parts_agree}
use Rattle.pass_split_proof.proofs.simulation.states_of_parts_bound_steps.Goals as goal

pub returns : goal.returns
returns c = parts_agree
