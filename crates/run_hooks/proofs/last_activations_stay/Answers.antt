use Rattle.std.proofs.Common.{◌∷◌}
use Rattle.run_hooks.proofs.Left.{sleepers_left, states_last, step_last}
use Rattle.run_hooks.proofs.last_activations_stay.Goals as goal

pub returns-clause-step : goal.returns-clause-step
returns-clause-step c = λ h s keeps k. step_last h keeps s k

pub returns-clause-runs : goal.returns-clause-runs
returns-clause-runs c = λ h entry args n keeps. states_last h keeps entry args n

pub returns-clause-suspended : goal.returns-clause-suspended
returns-clause-suspended c = λ s i k e. sleepers_left s.instances i e (s.top ∷ s.below) k
