use Rattle.run_accepted.proofs.Alive.{coroutine_keeps, plain_keeps}
use Rattle.run_accepted.proofs.functions_keep_alive_rules.Goals as goal

pub returns-clause-coroutine : goal.returns-clause-coroutine
returns-clause-coroutine c = coroutine_keeps

pub returns-clause-plain : goal.returns-clause-plain
returns-clause-plain c = plain_keeps
