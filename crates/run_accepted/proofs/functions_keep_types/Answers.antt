use Rattle.run_accepted.proofs.Types.{types_kept}
use Rattle.run_accepted.proofs.functions_keep_types.Goals as goal

pub returns : goal.returns
returns c = types_kept
