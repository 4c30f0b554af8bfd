use Rattle.pass_edges_proof.proofs.edges.shape.Kept.{calls_kept}
use Rattle.pass_edges_proof.proofs.edges.shape.calls_break_no_rule_where_edges_have_blocks.Goals as goal

pub returns : goal.returns
returns c = calls_kept
