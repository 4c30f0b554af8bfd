use Rattle.pass_edges_proof.proofs.edges.rules.Kept.{rules_kept}
use Rattle.pass_edges_proof.proofs.edges.rules.edge_blocks_keep_function_rules.Goals as goal

pub returns : goal.returns
returns c = rules_kept
