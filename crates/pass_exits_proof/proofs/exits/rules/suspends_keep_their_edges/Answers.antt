use Rattle.pass_exits_proof.proofs.exits.rules.Suspends.{edges_stay}
use Rattle.pass_exits_proof.proofs.exits.rules.suspends_keep_their_edges.Goals as goal

pub returns : goal.returns
returns c = edges_stay
