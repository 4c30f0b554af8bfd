use Rattle.pass_edges_proof.proofs.edges.simulation.Simulation.{edges_correspond}
use Rattle.pass_edges_proof.proofs.edges.simulation.edge_blocks_keep_states.Goals as goal

pub returns : goal.returns
returns c = edges_correspond
