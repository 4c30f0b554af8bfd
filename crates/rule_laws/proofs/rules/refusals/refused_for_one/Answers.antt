use Rattle.rule_laws.proofs.rules.refusals.Once.{refused_once}
use Rattle.rule_laws.proofs.rules.refusals.refused_for_one.Goals as goal

pub returns : goal.returns
returns c = refused_once
