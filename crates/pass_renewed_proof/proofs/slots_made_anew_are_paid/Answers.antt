use Rattle.pass_renewed_proof.proofs.Next.{entering_costs, entry_slots, prices_add}
use Rattle.pass_renewed_proof.proofs.slots_made_anew_are_paid.Goals as goal

pub returns-clause-slots : goal.returns-clause-slots
returns-clause-slots c = entry_slots

pub returns-clause-cost : goal.returns-clause-cost
returns-clause-cost c = entering_costs

pub returns-clause-paid : goal.returns-clause-paid
returns-clause-paid c = prices_add
