use Rattle.pass_edges_proof.proofs.kept.sources.Whole.{split_named}
use Rattle.pass_edges_proof.proofs.kept.sources.accepted_edges_have_plain_names.Goals as goal

pub returns : goal.returns
returns c = split_named
