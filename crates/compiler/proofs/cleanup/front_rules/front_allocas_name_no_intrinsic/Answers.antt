use Rattle.compiler.proofs.cleanup.front_rules.Whole.{unnamed_kept}
use Rattle.compiler.proofs.cleanup.front_rules.front_allocas_name_no_intrinsic.Goals as goal

pub returns : goal.returns
returns c = unnamed_kept
