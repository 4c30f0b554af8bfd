use Rattle.pass_elide_proof.proofs.DestroyingKept.{destroys_first, destroys_stay}
use Rattle.pass_elide_proof.proofs.DestroyingRuns.{destroys_in_runs}
use Rattle.pass_elide_proof.proofs.destroying.destroyed_activations_are_to_free.Goals as goal

pub returns-clause-start : goal.returns-clause-start
returns-clause-start c = destroys_first

pub returns-clause-step : goal.returns-clause-step
returns-clause-step c g s ways h = destroys_stay g s ways h

pub returns-clause-runs : goal.returns-clause-runs
returns-clause-runs c g entry args n switches switched = destroys_in_runs g entry args switches switched n
