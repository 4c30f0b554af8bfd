use Rattle.pass_edges_proof.proofs.edges.states.Intrinsics.{promise_moved}
use Rattle.pass_edges_proof.proofs.edges.states.promises_are_kept.Goals as goal

pub returns : goal.returns
returns c = promise_moved
