use Rattle.pass_edges_proof.proofs.edges.paths.Slots.{phi_taken}
use Rattle.pass_edges_proof.proofs.edges.paths.phis_take_the_same.Goals as goal

pub returns : goal.returns
returns c = phi_taken
