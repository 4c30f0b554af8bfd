use Rattle.pass_elide_runs.proofs.KnownRuns.{saved_goes, suspended_goes}
use Rattle.pass_elide_runs.proofs.known.known_instances_go_on.Goals as goal

pub returns-clause-saves : goal.returns-clause-saves
returns-clause-saves c e s k knows runs is = saved_goes e k s knows runs is

pub returns-clause-suspends : goal.returns-clause-suspends
returns-clause-suspends c e s k knows runs is none = suspended_goes e k s knows runs is none
