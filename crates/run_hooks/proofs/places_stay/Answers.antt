use Rattle.run_hooks.proofs.PlacedSteps.{left_at, no_window, states_placed, step_placed}
use Rattle.run_hooks.proofs.places_stay.Goals as goal

pub returns-clause-step : goal.returns-clause-step
returns-clause-step c = λ h s rules keeps r k. step_placed h rules keeps s r k

pub returns-clause-runs : goal.returns-clause-runs
returns-clause-runs c = λ h entry args n ok reaches rules keeps. states_placed h ok reaches rules keeps entry args n

pub returns-clause-left : goal.returns-clause-left
returns-clause-left c = λ h s k e. left_at h s k e

pub returns-clause-stays : goal.returns-clause-stays
returns-clause-stays c = λ h s k e no save u pair w. no_window h s k e no save u pair w
