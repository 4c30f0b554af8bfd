use Rattle.pass_renewed_proof.proofs.SlotEnvs.{kept_stand, renewed_stand, set_stand}
use Rattle.pass_renewed_proof.proofs.slot_values_stand.Goals as goal

pub returns-clause-renewed : goal.returns-clause-renewed
returns-clause-renewed c = renewed_stand

pub returns-clause-kept : goal.returns-clause-kept
returns-clause-kept c = kept_stand

pub returns-clause-set : goal.returns-clause-set
returns-clause-set c = set_stand
