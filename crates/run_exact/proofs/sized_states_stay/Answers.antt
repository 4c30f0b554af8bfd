use Rattle.run_exact.proofs.Runs.{step_sized}
use Rattle.run_exact.proofs.sized_states_stay.Goals as goal

pub returns : goal.returns
returns c g keep switches small s reached h = step_sized g keep switches small s reached h
