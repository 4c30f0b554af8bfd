use Rattle.pass_edges_proof.proofs.edges.rules.Kept.{suspend_blocks}
use Rattle.pass_edges_proof.proofs.edges.rules.suspends_have_blocks_of_their_own.Goals as goal

pub returns : goal.returns
returns c = suspend_blocks
