use Rattle.run_states.proofs.moved_states.Simulation.{moves_correspond}
use Rattle.run_states.proofs.moved_states.moves_keep_framed_states.Goals as goal

pub returns : goal.returns
returns c = moves_correspond
