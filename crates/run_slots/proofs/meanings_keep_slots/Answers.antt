use Rattle.run_slots.proofs.Meanings.{framed_keeps_slots, kept_keeps_slots, renewed_keeps_slots, source_keeps_slots}
use Rattle.run_slots.proofs.meanings_keep_slots.Goals as goal

pub returns-clause-source : goal.returns-clause-source
returns-clause-source c = source_keeps_slots

pub returns-clause-kept : goal.returns-clause-kept
returns-clause-kept c = kept_keeps_slots

pub returns-clause-renewed : goal.returns-clause-renewed
returns-clause-renewed c = renewed_keeps_slots

pub returns-clause-framed : goal.returns-clause-framed
returns-clause-framed c = framed_keeps_slots
