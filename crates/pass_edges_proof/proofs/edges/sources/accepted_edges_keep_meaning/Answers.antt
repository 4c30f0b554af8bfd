use Rattle.pass_edges_proof.proofs.edges.sources.Accepted.{accepted_agree_split}
use Rattle.pass_edges_proof.proofs.edges.sources.accepted_edges_keep_meaning.Goals as goal

pub returns : goal.returns
returns c = accepted_agree_split
