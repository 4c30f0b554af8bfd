use Rattle.pass_exits_proof.proofs.split.edges.Late.{part_allocas_kept}
use Rattle.pass_exits_proof.proofs.split.edges.parts_keep_their_allocas_in_the_entry_block.Goals as goal

pub returns : goal.returns
returns c = part_allocas_kept
