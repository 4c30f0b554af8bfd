use Rattle.pass_exits_proof.proofs.exits.rules.Places.{spot}
use Rattle.pass_exits_proof.proofs.exits.states.Exits.{coroutine_moved}
use Rattle.pass_exits_proof.proofs.exits.states.exit_blocks_move_coroutines.Goals as goal

pub returns : goal.returns
returns c = λ m k f coroutine h. (spot f, coroutine_moved m k f coroutine h)
