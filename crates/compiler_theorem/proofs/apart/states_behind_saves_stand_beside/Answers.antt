use Rattle.compiler_theorem.proofs.apart.Saved.{saves_beside}
use Rattle.compiler_theorem.proofs.apart.states_behind_saves_stand_beside.Goals as goal

pub returns : goal.returns
returns c = saves_beside
