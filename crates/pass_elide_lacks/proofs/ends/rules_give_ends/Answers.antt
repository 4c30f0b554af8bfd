use Rattle.pass_elide_lacks.proofs.RuleEnds.{inside_ends, outside_ends}
use Rattle.pass_elide_lacks.proofs.ends.rules_give_ends.Goals as goal

pub returns-clause-coroutine : goal.returns-clause-coroutine
returns-clause-coroutine c k f coroutine calls outside = inside_ends k f coroutine calls outside

pub returns-clause-plain : goal.returns-clause-plain
returns-clause-plain c m k f rules plain = outside_ends m k f rules plain
