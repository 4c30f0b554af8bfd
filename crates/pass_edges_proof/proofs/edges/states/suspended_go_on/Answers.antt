use Rattle.pass_edges_proof.proofs.edges.states.Resumes.{continue_near}
use Rattle.pass_edges_proof.proofs.edges.states.suspended_go_on.Goals as goal

pub returns : goal.returns
returns c = continue_near
