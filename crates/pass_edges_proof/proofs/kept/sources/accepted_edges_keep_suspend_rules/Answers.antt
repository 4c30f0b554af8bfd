use Rattle.pass_edges_proof.proofs.kept.sources.Whole.{split_keeps}
use Rattle.pass_edges_proof.proofs.kept.sources.accepted_edges_keep_suspend_rules.Goals as goal

pub returns : goal.returns
returns c = split_keeps
