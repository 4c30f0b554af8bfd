use Rattle.pass_exits_proof.proofs.split.edges.OwnLabels.{part_labels_own}
use Rattle.pass_exits_proof.proofs.split.edges.parts_name_their_own_labels.Goals as goal

pub returns : goal.returns
returns c = part_labels_own
