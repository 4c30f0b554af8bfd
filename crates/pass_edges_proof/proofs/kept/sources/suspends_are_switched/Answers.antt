use Rattle.pass_edges_proof.proofs.kept.sources.Suspends.{is_switched}
use Rattle.pass_edges_proof.proofs.kept.sources.suspends_are_switched.Goals as goal

pub returns : goal.returns
returns c = is_switched
