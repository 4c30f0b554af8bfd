use Rattle.pass_elide_ready.proofs.EndsAlike.{frees_alike}
use Rattle.pass_elide_ready.proofs.ReleaseBlocks.{tested_blocks}
use Rattle.pass_elide_ready.proofs.asking.tested_frees_have_blocks.Goals as goal

pub returns-clause-edges : goal.returns-clause-edges
returns-clause-edges c = tested_blocks

pub returns-clause-alike : goal.returns-clause-alike
returns-clause-alike c = frees_alike
