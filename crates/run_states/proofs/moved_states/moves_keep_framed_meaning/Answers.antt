use Rattle.run_states.proofs.moved_states.Simulation.{moves_agree}
use Rattle.run_states.proofs.moved_states.moves_keep_framed_meaning.Goals as goal

pub returns : goal.returns
returns c = moves_agree
