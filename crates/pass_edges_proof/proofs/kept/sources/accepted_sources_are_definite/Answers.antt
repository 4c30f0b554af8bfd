use Rattle.pass_edges_proof.proofs.kept.sources.Modules.{early_definite}
use Rattle.pass_edges_proof.proofs.kept.sources.accepted_sources_are_definite.Goals as goal

pub returns : goal.returns
returns c = early_definite
