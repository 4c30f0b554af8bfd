use Rattle.pass_renewed_proof.proofs.EntryBlock.{entry_before_end}
use Rattle.pass_renewed_proof.proofs.SlotAllocas.{begun_slot, early_slot, made_memory}
use Rattle.pass_renewed_proof.proofs.allocas_of_slots_stay_beside.Goals as goal

pub returns-clause-memory : goal.returns-clause-memory
returns-clause-memory c = made_memory

pub returns-clause-early : goal.returns-clause-early
returns-clause-early c = λ m flags roots keeps s t beside a ty align is small marked marks early stays.
    early_slot m flags roots keeps s t beside a ty align is small marked marks early stays

pub returns-clause-begun : goal.returns-clause-begun
returns-clause-begun c = λ m flags roots keeps s t beside a ty align is small marked marks i x own there going no_after func.
    begun_slot m flags roots keeps s t beside a ty align is small marked marks i x own there going no_after func

pub returns-clause-entry : goal.returns-clause-entry
returns-clause-entry c = entry_before_end
