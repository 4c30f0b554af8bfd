use Rattle.rule_laws.proofs.frames.suspend_counts.Small.{accepted_few}
use Rattle.rule_laws.proofs.frames.suspend_counts.accepted_suspends_are_few.Goals as goal

pub returns : goal.returns
returns c = accepted_few
