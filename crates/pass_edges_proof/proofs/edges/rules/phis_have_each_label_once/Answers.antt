use Rattle.pass_edges_proof.proofs.edges.rules.Kept.{labels_different}
use Rattle.pass_edges_proof.proofs.edges.rules.phis_have_each_label_once.Goals as goal

pub returns : goal.returns
returns c = labels_different
