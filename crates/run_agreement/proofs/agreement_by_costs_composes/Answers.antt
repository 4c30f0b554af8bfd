use Rattle.run_agreement.proofs.Costs.{compose_by}
use Rattle.run_agreement.proofs.agreement_by_costs_composes.Goals as goal

pub returns : goal.returns
returns g c = compose_by g.P.Keeps.corresponds g.P.Keeps.stands g.Q.Keeps.corresponds g.Q.Keeps.stands
