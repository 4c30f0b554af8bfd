use Rattle.pass_edges_proof.proofs.edges.states.Calls.{enter_moved}
use Rattle.pass_edges_proof.proofs.edges.states.calls_are_kept.Goals as goal

pub returns : goal.returns
returns c = enter_moved
