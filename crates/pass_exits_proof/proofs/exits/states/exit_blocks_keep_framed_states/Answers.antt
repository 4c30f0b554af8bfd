use Rattle.pass_exits_proof.proofs.exits.states.Agreement.{exits_correspond}
use Rattle.pass_exits_proof.proofs.exits.states.exit_blocks_keep_framed_states.Goals as goal

pub returns : goal.returns
returns c = exits_correspond
