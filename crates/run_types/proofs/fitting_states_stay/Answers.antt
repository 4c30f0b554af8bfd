use Rattle.run_types.proofs.Acts.{step_fits}
use Rattle.run_types.proofs.Runs.{states_fit}
use Rattle.run_types.proofs.fitting_states_stay.Goals as goal

pub returns-clause-step : goal.returns-clause-step
returns-clause-step c = λ h s rules keeps reached k. step_fits h rules keeps s k reached

pub returns-clause-runs : goal.returns-clause-runs
returns-clause-runs c = λ h entry args n ok reaches rules keeps given.
    states_fit h ok reaches rules keeps entry args n given
