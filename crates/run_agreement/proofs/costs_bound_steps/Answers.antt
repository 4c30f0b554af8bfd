use Rattle.run_agreement.proofs.Costs.{agrees_within}
use Rattle.run_agreement.proofs.costs_bound_steps.Goals as goal

pub returns : goal.returns
returns g c = agrees_within g.P.Keeps.corresponds g.P.Keeps.stands
