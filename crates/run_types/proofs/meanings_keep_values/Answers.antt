use Rattle.run_types.proofs.Meanings.{framed_keeps_fitting, kept_keeps_fitting, renewed_keeps_fitting}
use Rattle.run_types.proofs.Meanings.{source_keeps_fitting}
use Rattle.run_types.proofs.meanings_keep_values.Goals as goal

pub returns-clause-source : goal.returns-clause-source
returns-clause-source c = λ g rules. source_keeps_fitting g rules

pub returns-clause-kept : goal.returns-clause-kept
returns-clause-kept c = λ g keep rules. kept_keeps_fitting g keep rules

pub returns-clause-renewed : goal.returns-clause-renewed
returns-clause-renewed c = λ g rules. renewed_keeps_fitting g rules

pub returns-clause-framed : goal.returns-clause-framed
returns-clause-framed c = λ g rules given. framed_keeps_fitting g rules given
