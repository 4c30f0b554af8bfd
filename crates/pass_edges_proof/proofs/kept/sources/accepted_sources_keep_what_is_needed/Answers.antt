use Rattle.pass_edges_proof.proofs.kept.sources.States.{split_corresponds}
use Rattle.pass_edges_proof.proofs.kept.sources.accepted_sources_keep_what_is_needed.Goals as goal

pub returns : goal.returns
returns c = split_corresponds
