use Rattle.pass_edges_proof.proofs.edges.rules.Switched.{switches_stay}
use Rattle.pass_edges_proof.proofs.edges.rules.suspends_stay_switched.Goals as goal

pub returns : goal.returns
returns c = switches_stay
