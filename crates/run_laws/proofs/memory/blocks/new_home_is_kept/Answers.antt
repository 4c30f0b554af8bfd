use Rattle.run_laws.proofs.memory.Changes.{reseated}
use Rattle.run_laws.proofs.memory.blocks.new_home_is_kept.Goals as goal

pub returns : goal.returns
returns c = reseated
