use Rattle.pass_exits_proof.proofs.exits.spelled.Edges.{exits_spelled}
use Rattle.pass_exits_proof.proofs.exits.spelled.exit_blocks_can_be_spelled.Goals as goal

pub returns : goal.returns
returns c = exits_spelled
