use Rattle.pass_elide_runs.proofs.Elided.{elided_switched, elided_switches}
use Rattle.pass_elide_runs.proofs.standing.elided_modules_have_switches.Goals as goal

pub returns-clause-paths : goal.returns-clause-paths
returns-clause-paths c = elided_switches

pub returns-clause-blocks : goal.returns-clause-blocks
returns-clause-blocks c = elided_switched
