use Rattle.rule_laws.proofs.frames.suspend_counts.Counted.{few}
use Rattle.rule_laws.proofs.frames.suspend_counts.suspends_are_few.Goals as goal

pub returns : goal.returns
returns c = few
