use Rattle.pass_edges_proof.proofs.edges.shape.Kept.{switches_kept}
use Rattle.pass_edges_proof.proofs.edges.shape.switches_break_no_rule_where_edges_have_blocks.Goals as goal

pub returns : goal.returns
returns c = switches_kept
