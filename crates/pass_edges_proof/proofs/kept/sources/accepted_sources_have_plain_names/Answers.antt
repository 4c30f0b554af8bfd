use Rattle.pass_edges_proof.proofs.kept.sources.Modules.{early_named}
use Rattle.pass_edges_proof.proofs.kept.sources.accepted_sources_have_plain_names.Goals as goal

pub returns : goal.returns
returns c = early_named
