use Rattle.pass_edges_proof.proofs.edges.states.States.{go_to_near}
use Rattle.pass_edges_proof.proofs.edges.states.blocks_are_entered.Goals as goal

pub returns : goal.returns
returns c = go_to_near
