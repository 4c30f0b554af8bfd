use Rattle.rule_laws.proofs.frames.front_rules.Shape.{same_suspends}
use Rattle.rule_laws.proofs.frames.front_rules.suspends_stay_behind_front_allocas.Goals as goal

pub returns : goal.returns
returns c = same_suspends
