use Rattle.run_hooks.proofs.LeftKeeping.{framed_keeps_last, kept_keeps_last, renewed_keeps_last, source_keeps_last}
use Rattle.run_hooks.proofs.meanings_keep_last_activations.Goals as goal

pub returns-clause-source : goal.returns-clause-source
returns-clause-source c = λ g. source_keeps_last g

pub returns-clause-kept : goal.returns-clause-kept
returns-clause-kept c = λ g keep. kept_keeps_last g keep

pub returns-clause-renewed : goal.returns-clause-renewed
returns-clause-renewed c = λ g. renewed_keeps_last g

pub returns-clause-framed : goal.returns-clause-framed
returns-clause-framed c = λ g. framed_keeps_last g
