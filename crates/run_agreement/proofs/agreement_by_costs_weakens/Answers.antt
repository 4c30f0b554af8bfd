use Rattle.run_agreement.proofs.Costs.{weaken_by}
use Rattle.run_agreement.proofs.agreement_by_costs_weakens.Goals as goal

pub returns : goal.returns
returns g c = weaken_by g.P.Keeps.corresponds g.P.Keeps.stands g.Q.Keeps.corresponds g.Q.Keeps.stands
