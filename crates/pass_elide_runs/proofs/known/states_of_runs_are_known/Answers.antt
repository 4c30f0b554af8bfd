use Rattle.pass_elide_runs.proofs.KnownRuns.{knows_framed, knows_giving}
use Rattle.pass_elide_runs.proofs.known.states_of_runs_are_known.Goals as goal

pub returns-clause-framed : goal.returns-clause-framed
returns-clause-framed c e entry args n keeps k plain fine = knows_framed e keeps k entry args n plain fine

pub returns-clause-giving : goal.returns-clause-giving
returns-clause-giving c e entry args n keeps k plain fine = knows_giving e keeps k entry args n plain fine
