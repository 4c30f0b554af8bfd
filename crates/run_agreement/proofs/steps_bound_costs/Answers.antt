use Rattle.run_agreement.proofs.Costs.{agrees_by}
use Rattle.run_agreement.proofs.steps_bound_costs.Goals as goal

pub returns : goal.returns
returns g c = agrees_by
