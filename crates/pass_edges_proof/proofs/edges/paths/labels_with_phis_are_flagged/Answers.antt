use Rattle.pass_edges_proof.proofs.edges.paths.Tables.{flag_at}
use Rattle.pass_edges_proof.proofs.edges.paths.labels_with_phis_are_flagged.Goals as goal

pub returns : goal.returns
returns c = flag_at
