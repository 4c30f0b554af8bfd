use Rattle.run_laws.proofs.memory.Loads.{loads_kept}
use Rattle.run_laws.proofs.memory.operations.load_is_kept.Goals as goal

pub returns : goal.returns
returns c = loads_kept
