use Rattle.pass_elide_proof.proofs.Counted.{step_same}
use Rattle.pass_elide_proof.proofs.CountedSteps.{uncounted_step}
use Rattle.pass_elide_proof.proofs.counts.counts_are_not_looked_at.Goals as goal

pub returns-clause-ordinary : goal.returns-clause-ordinary
returns-clause-ordinary c = step_same

pub returns-clause-framed : goal.returns-clause-framed
returns-clause-framed c = uncounted_step
