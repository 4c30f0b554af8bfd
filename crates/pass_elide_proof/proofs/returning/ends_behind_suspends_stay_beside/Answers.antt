use Rattle.pass_elide_proof.proofs.GivenValues.{ramps_go_on, resumed_lead_back}
use Rattle.pass_elide_proof.proofs.returning.ends_behind_suspends_stay_beside.Goals as goal

pub returns-clause-ramp : goal.returns-clause-ramp
returns-clause-ramp c = ramps_go_on

pub returns-clause-resumed : goal.returns-clause-resumed
returns-clause-resumed c = resumed_lead_back
