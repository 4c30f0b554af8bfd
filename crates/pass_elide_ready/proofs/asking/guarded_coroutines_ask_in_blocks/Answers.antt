use Rattle.pass_elide_ready.proofs.EndsAlike.{asks_alike}
use Rattle.pass_elide_ready.proofs.GuardBlocks.{guard_blocks}
use Rattle.pass_elide_ready.proofs.asking.guarded_coroutines_ask_in_blocks.Goals as goal

pub returns-clause-edges : goal.returns-clause-edges
returns-clause-edges c = guard_blocks

pub returns-clause-alike : goal.returns-clause-alike
returns-clause-alike c = asks_alike
