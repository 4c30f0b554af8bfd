use Rattle.pass_edges_proof.proofs.kept.sources.Whole.{split_handed}
use Rattle.pass_edges_proof.proofs.kept.sources.accepted_sources_hand_on_what_crosses.Goals as goal

pub returns : goal.returns
returns c = split_handed
