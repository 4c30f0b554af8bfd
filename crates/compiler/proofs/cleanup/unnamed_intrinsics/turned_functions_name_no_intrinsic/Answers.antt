use Rattle.compiler.proofs.cleanup.unnamed_intrinsics.Parts.{turned_free}
use Rattle.compiler.proofs.cleanup.unnamed_intrinsics.turned_functions_name_no_intrinsic.Goals as goal

pub returns : goal.returns
returns c = turned_free
