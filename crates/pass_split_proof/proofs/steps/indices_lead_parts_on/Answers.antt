use Rattle.pass_split_proof.proofs.steps.Dispatched.{leads_on, quiet_on}
use Rattle.pass_split_proof.proofs.steps.indices_lead_parts_on.Goals as goal

pub returns-clause-leads : goal.returns-clause-leads
returns-clause-leads c = leads_on

pub returns-clause-quiet : goal.returns-clause-quiet
returns-clause-quiet c = quiet_on
