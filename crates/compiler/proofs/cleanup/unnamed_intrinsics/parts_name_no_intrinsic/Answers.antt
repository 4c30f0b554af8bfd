use Rattle.compiler.proofs.cleanup.unnamed_intrinsics.Parts.{parts_free}
use Rattle.compiler.proofs.cleanup.unnamed_intrinsics.parts_name_no_intrinsic.Goals as goal

pub returns : goal.returns
returns c = parts_free
