use Rattle.pass_edges_proof.proofs.edges.states.Performs.{step_near}
use Rattle.pass_edges_proof.proofs.edges.states.steps_are_near.Goals as goal

pub returns : goal.returns
returns c = step_near
