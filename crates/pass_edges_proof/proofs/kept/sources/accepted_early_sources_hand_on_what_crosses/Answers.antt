use Rattle.pass_edges_proof.proofs.kept.sources.Modules.{early_handed}
use Rattle.pass_edges_proof.proofs.kept.sources.accepted_early_sources_hand_on_what_crosses.Goals as goal

pub returns : goal.returns
returns c = early_handed
