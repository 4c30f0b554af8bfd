use Rattle.pass_exits_proof.proofs.exits.states.Agreement.{exits_pay}
use Rattle.pass_exits_proof.proofs.exits.states.exit_blocks_cost_at_edges.Goals as goal

pub returns : goal.returns
returns c = exits_pay
