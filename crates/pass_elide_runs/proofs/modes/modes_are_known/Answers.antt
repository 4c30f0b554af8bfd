use Rattle.pass_elide_runs.proofs.KnownModes.{modes_in_runs, modes_stay}
use Rattle.pass_elide_runs.proofs.modes.modes_are_known.Goals as goal

pub returns-clause-step : goal.returns-clause-step
returns-clause-step c = modes_stay

pub returns-clause-runs : goal.returns-clause-runs
returns-clause-runs c g entry args n switches plain fine = modes_in_runs g switches entry args plain n fine
