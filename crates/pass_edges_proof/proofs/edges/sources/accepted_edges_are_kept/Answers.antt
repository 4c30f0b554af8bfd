use Rattle.pass_edges_proof.proofs.edges.sources.Accepted.{accepted_kept}
use Rattle.pass_edges_proof.proofs.edges.sources.accepted_edges_are_kept.Goals as goal

pub returns : goal.returns
returns c = accepted_kept
