use Rattle.pass_edges_proof.proofs.edges.sources.States.{accepted_corresponds}
use Rattle.pass_edges_proof.proofs.edges.sources.accepted_edges_keep_states.Goals as goal

pub returns : goal.returns
returns c = accepted_corresponds
