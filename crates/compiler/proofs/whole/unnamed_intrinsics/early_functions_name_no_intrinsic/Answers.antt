use Rattle.compiler.proofs.whole.unnamed_intrinsics.Early.{early_free}
use Rattle.compiler.proofs.whole.unnamed_intrinsics.early_functions_name_no_intrinsic.Goals as goal

pub returns : goal.returns
returns c = early_free
