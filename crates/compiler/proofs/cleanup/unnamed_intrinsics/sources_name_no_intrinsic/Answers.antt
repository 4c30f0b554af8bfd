use Rattle.compiler.proofs.cleanup.unnamed_intrinsics.Sources.{source_free}
use Rattle.compiler.proofs.cleanup.unnamed_intrinsics.sources_name_no_intrinsic.Goals as goal

pub returns : goal.returns
returns c = source_free
