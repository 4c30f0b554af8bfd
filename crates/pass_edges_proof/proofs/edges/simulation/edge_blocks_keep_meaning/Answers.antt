use Rattle.pass_edges_proof.proofs.edges.simulation.Simulation.{edges_agree}
use Rattle.pass_edges_proof.proofs.edges.simulation.edge_blocks_keep_meaning.Goals as goal

pub returns : goal.returns
returns c = edges_agree
