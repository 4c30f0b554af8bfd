use Rattle.compiler.proofs.whole.unnamed_intrinsics.Early.{edges_free}
use Rattle.compiler.proofs.whole.unnamed_intrinsics.edge_blocks_name_no_intrinsic.Goals as goal

pub returns : goal.returns
returns c = edges_free
