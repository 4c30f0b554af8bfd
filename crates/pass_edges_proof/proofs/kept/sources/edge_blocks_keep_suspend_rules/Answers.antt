use Rattle.pass_edges_proof.proofs.kept.sources.EdgeWindows.{edges_keep}
use Rattle.pass_edges_proof.proofs.kept.sources.edge_blocks_keep_suspend_rules.Goals as goal

pub returns : goal.returns
returns c = edges_keep
