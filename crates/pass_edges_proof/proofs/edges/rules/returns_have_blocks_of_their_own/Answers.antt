use Rattle.pass_edges_proof.proofs.edges.rules.Kept.{own_blocks}
use Rattle.pass_edges_proof.proofs.edges.rules.returns_have_blocks_of_their_own.Goals as goal

pub returns : goal.returns
returns c = own_blocks
