use Rattle.pass_elide_runs.proofs.CalledFrom.{calls_in_runs, calls_stay}
use Rattle.pass_elide_runs.proofs.calls.activations_are_made_by_calls.Goals as goal

pub returns-clause-start : goal.returns-clause-start
returns-clause-start c m entry args = tt

pub returns-clause-step : goal.returns-clause-step
returns-clause-step c g s u runs h leads = calls_stay g s u runs tt h leads

pub returns-clause-runs : goal.returns-clause-runs
returns-clause-runs c g entry args n fine = calls_in_runs g entry args n fine
