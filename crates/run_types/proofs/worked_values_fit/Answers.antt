use Rattle.run_types.proofs.worked_values_fit.Goals as goal
use Rattle.run_types.specs.Worked as worked

pub returns : goal.returns
returns c = worked.computes
