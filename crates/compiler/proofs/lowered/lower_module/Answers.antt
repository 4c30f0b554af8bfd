use Rattle.compiler.proofs.NoCoroutine.{lowering_by_has_none}
use Rattle.compiler.proofs.lowered.lower_module.Goals as goal

pub returns-clause-plain : goal.returns-clause-plain
returns-clause-plain c = lowering_by_has_none c.args.source c.in_ok-acceptance.acceptance c.lower_by.result c.lower_by.ensures.lowered
