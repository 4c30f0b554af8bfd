use Rattle.run_hooks.proofs.PlacedKeeping.{framed_keeps_placed, kept_keeps_placed, renewed_keeps_placed}
use Rattle.run_hooks.proofs.PlacedKeeping.{source_keeps_placed}
use Rattle.run_hooks.proofs.meanings_keep_places.Goals as goal

pub returns-clause-source : goal.returns-clause-source
returns-clause-source c = λ g. source_keeps_placed g

pub returns-clause-kept : goal.returns-clause-kept
returns-clause-kept c = λ g keep. kept_keeps_placed g keep

pub returns-clause-renewed : goal.returns-clause-renewed
returns-clause-renewed c = λ g. renewed_keeps_placed g

pub returns-clause-framed : goal.returns-clause-framed
returns-clause-framed c = λ g rules. framed_keeps_placed g rules
