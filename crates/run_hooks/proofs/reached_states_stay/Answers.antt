use Rattle.run_hooks.proofs.Reaching.{states_reached, step_stays}
use Rattle.run_hooks.proofs.reached_states_stay.Goals as goal

pub returns-clause-step : goal.returns-clause-step
returns-clause-step c = λ h s ok keeps r. step_stays h ok keeps s r

pub returns-clause-runs : goal.returns-clause-runs
returns-clause-runs c = λ h entry args n ok keeps. states_reached h ok keeps entry args n
