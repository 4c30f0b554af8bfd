use Rattle.pass_elide_proof.proofs.CallersEdges.{edges_keep}
use Rattle.pass_elide_proof.proofs.kept_callers.edges_keep_callers.Goals as goal

pub returns : goal.returns
returns c = edges_keep
