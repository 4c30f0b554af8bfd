use Rattle.pass_elide_runs.proofs.OwnEnds.{ends_go, saves_go, suspends_go}
use Rattle.pass_elide_runs.proofs.ends.own_instances_go_on_at_calls.Goals as goal

pub returns-clause-saves : goal.returns-clause-saves
returns-clause-saves c = saves_go

pub returns-clause-suspends : goal.returns-clause-suspends
returns-clause-suspends c = suspends_go

pub returns-clause-ends : goal.returns-clause-ends
returns-clause-ends c = ends_go
