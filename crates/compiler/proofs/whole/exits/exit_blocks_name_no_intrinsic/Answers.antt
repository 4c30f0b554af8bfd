use Rattle.compiler.proofs.whole.exits.Unnamed.{names_none}
use Rattle.compiler.proofs.whole.exits.exit_blocks_name_no_intrinsic.Goals as goal

pub returns : goal.returns
returns c = names_none
