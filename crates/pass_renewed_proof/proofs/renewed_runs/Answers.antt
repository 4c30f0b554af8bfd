use Rattle.pass_renewed_proof.specs.LocalSlot as local_slot
use Rattle.pass_renewed_proof.specs.RestartedSlots as restarted_slots
use Rattle.pass_renewed_proof.specs.EscapedRestart as escaped_restart
use Rattle.pass_renewed_proof.proofs.renewed_runs.Goals as goal

pub returns-clause-local_slot : goal.returns-clause-local_slot
returns-clause-local_slot c = local_slot.computes

pub returns-clause-restarted_slots : goal.returns-clause-restarted_slots
returns-clause-restarted_slots c = restarted_slots.computes

pub returns-clause-escaped_restart : goal.returns-clause-escaped_restart
returns-clause-escaped_restart c = escaped_restart.computes

pub returns-clause-paid : goal.returns-clause-paid
returns-clause-paid c = local_slot.paid
