use Rattle.pass_exits_proof.proofs.split.rules.Cutting.{cut_blocks}
use Rattle.pass_exits_proof.proofs.split.rules.blocks_are_cut_into_pieces.Goals as goal

pub returns : goal.returns
returns c = cut_blocks
