use Rattle.run_slots.proofs.Made.{step_made}
use Rattle.run_slots.proofs.MadeMeanings.{framed_keeps_made, kept_keeps_made, renewed_keeps_made, source_keeps_made}
use Rattle.run_slots.proofs.slots_stay_those_of_allocas.Goals as goal

pub returns-clause-step : goal.returns-clause-step
returns-clause-step c = λ h s keeps reached k. step_made h keeps s reached k

pub returns-clause-source : goal.returns-clause-source
returns-clause-source c = source_keeps_made

pub returns-clause-kept : goal.returns-clause-kept
returns-clause-kept c = kept_keeps_made

pub returns-clause-renewed : goal.returns-clause-renewed
returns-clause-renewed c = renewed_keeps_made

pub returns-clause-framed : goal.returns-clause-framed
returns-clause-framed c = framed_keeps_made
