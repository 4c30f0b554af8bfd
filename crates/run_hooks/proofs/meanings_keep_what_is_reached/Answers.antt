use Rattle.run_hooks.proofs.Keeping.{accepted_switches, framed_keeps, kept_keeps, renewed_keeps, source_keeps}
use Rattle.run_hooks.proofs.meanings_keep_what_is_reached.Goals as goal

pub returns-clause-source : goal.returns-clause-source
returns-clause-source c = λ g. source_keeps g

pub returns-clause-kept : goal.returns-clause-kept
returns-clause-kept c = λ g keep. kept_keeps g keep

pub returns-clause-renewed : goal.returns-clause-renewed
returns-clause-renewed c = λ g. renewed_keeps g

pub returns-clause-framed : goal.returns-clause-framed
returns-clause-framed c = λ g. framed_keeps g

pub returns-clause-switches : goal.returns-clause-switches
returns-clause-switches c = λ m ok. accepted_switches m ok
