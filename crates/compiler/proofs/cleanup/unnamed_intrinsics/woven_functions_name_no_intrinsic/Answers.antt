use Rattle.compiler.proofs.cleanup.unnamed_intrinsics.Woven.{woven_free}
use Rattle.compiler.proofs.cleanup.unnamed_intrinsics.woven_functions_name_no_intrinsic.Goals as goal

pub returns : goal.returns
returns c = woven_free
