use Rattle.pass_elide_framed.proofs.ElidedForms.{handles_kept, more_kept, runs_kept}
use Rattle.pass_elide_framed.proofs.elided.framed_forms_are_kept.Goals as goal

pub returns-clause-handles : goal.returns-clause-handles
returns-clause-handles c = handles_kept

pub returns-clause-more : goal.returns-clause-more
returns-clause-more c = more_kept

pub returns-clause-runs : goal.returns-clause-runs
returns-clause-runs c = runs_kept
