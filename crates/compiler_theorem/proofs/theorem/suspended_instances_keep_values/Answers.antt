use Rattle.compiler_theorem.proofs.theorem.shown.KeptStatus.{kept_suspended}
use Rattle.compiler_theorem.proofs.theorem.suspended_instances_keep_values.Goals as goal

pub returns : goal.returns
returns c = kept_suspended
