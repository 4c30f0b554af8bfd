use Rattle.pass_edges_proof.proofs.kept.sources.Modules.{early_keeps}
use Rattle.pass_edges_proof.proofs.kept.sources.accepted_sources_keep_suspend_rules.Goals as goal

pub returns : goal.returns
returns c = early_keeps
