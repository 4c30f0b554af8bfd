use Rattle.pass_edges_proof.proofs.edges.states.Acts.{new_slot_moved}
use Rattle.pass_edges_proof.proofs.edges.states.new_slots_are_kept.Goals as goal

pub returns : goal.returns
returns c = new_slot_moved
