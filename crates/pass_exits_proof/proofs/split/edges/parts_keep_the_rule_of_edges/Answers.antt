use Rattle.pass_exits_proof.proofs.split.edges.Kept.{part_edges_kept}
use Rattle.pass_exits_proof.proofs.split.edges.parts_keep_the_rule_of_edges.Goals as goal

pub returns : goal.returns
returns c = part_edges_kept
