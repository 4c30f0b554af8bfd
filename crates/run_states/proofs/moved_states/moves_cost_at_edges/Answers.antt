use Rattle.run_states.proofs.moved_states.Costs.{moves_pay}
use Rattle.run_states.proofs.moved_states.moves_cost_at_edges.Goals as goal

pub returns : goal.returns
returns c = λ mv m kinds names moves layouts entry args answers price cost. moves_pay mv m kinds names moves layouts
    entry args answers price cost
