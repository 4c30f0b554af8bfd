use Rattle.pass_elide_apart.proofs.Switched.{leads_behind}
use Rattle.pass_elide_apart.proofs.behind.suspends_lead_to_both_labels.Goals as goal

pub returns : goal.returns
returns c = leads_behind
