use Rattle.pass_cleanup.proofs.Simulation.{clean_corresponds}
use Rattle.pass_cleanup.proofs.cleaned_runs.cleaning_keeps_states.Goals as goal

pub returns : goal.returns
returns c = clean_corresponds
