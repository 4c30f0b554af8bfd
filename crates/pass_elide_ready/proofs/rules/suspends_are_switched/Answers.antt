use Rattle.pass_elide_ready.proofs.Modules.{none_taken, switched, switches}
use Rattle.pass_elide_ready.proofs.rules.suspends_are_switched.Goals as goal

pub returns-clause-switches : goal.returns-clause-switches
returns-clause-switches c = switches

pub returns-clause-switched : goal.returns-clause-switched
returns-clause-switched c = switched

pub returns-clause-phis : goal.returns-clause-phis
returns-clause-phis c = none_taken
