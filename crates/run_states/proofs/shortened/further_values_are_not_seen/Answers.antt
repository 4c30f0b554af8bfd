use Rattle.run_states.proofs.shortened.ShortSteps.{step_short}
use Rattle.run_states.proofs.shortened.further_values_are_not_seen.Goals as goal

pub returns : goal.returns
returns c = λ g s named own. step_short g named s own
