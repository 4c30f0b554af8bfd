use Rattle.pass_edges_proof.proofs.edges.paths.Slots.{same_ramp_slots}
use Rattle.pass_edges_proof.proofs.edges.paths.ramp_slots_stay.Goals as goal

pub returns : goal.returns
returns c = same_ramp_slots
