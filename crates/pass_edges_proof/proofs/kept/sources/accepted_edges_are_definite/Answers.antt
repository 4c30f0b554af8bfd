use Rattle.pass_edges_proof.proofs.kept.sources.Whole.{split_definite}
use Rattle.pass_edges_proof.proofs.kept.sources.accepted_edges_are_definite.Goals as goal

pub returns : goal.returns
returns c = split_definite
