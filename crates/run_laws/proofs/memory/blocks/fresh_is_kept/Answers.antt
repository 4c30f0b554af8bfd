use Rattle.run_laws.proofs.memory.Mirrored.{fresh_kept}
use Rattle.run_laws.proofs.memory.blocks.fresh_is_kept.Goals as goal

pub returns : goal.returns
returns c = fresh_kept
