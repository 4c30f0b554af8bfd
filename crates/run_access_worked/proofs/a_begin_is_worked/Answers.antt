use Rattle.run_access_worked.proofs.Example.{begins, block_embeds}
use Rattle.run_access_worked.proofs.a_begin_is_worked.Goals as goal

pub returns-clause-before : goal.returns-clause-before
returns-clause-before c = block_embeds

pub returns-clause-after : goal.returns-clause-after
returns-clause-after c = begins
