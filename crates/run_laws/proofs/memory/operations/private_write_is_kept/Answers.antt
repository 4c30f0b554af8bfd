use Rattle.run_laws.proofs.memory.Stores.{private_writes_kept}
use Rattle.run_laws.proofs.memory.operations.private_write_is_kept.Goals as goal

pub returns : goal.returns
returns c = private_writes_kept
