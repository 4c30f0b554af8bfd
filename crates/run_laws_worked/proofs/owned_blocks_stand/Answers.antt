use Rattle.run_laws_worked.proofs.Frames.{owned_block_stands}
use Rattle.run_laws_worked.proofs.owned_blocks_stand.Goals as goal

pub returns : goal.returns
returns c = owned_block_stands
