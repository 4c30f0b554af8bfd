use Rattle.run_laws.proofs.memory.Mirrored.{mirrored}
use Rattle.run_laws.proofs.memory.blocks.mirrored_change_is_kept.Goals as goal

pub returns : goal.returns
returns c = mirrored
