use Rattle.run_laws.proofs.memory.Stores.{stores_kept}
use Rattle.run_laws.proofs.memory.operations.store_is_kept.Goals as goal

pub returns : goal.returns
returns c = stores_kept
