use Rattle.pass_elide_proof.proofs.Allocas.{knows_allocas}
use Rattle.pass_elide_proof.proofs.ReleasedKept.{released_first, released_on, released_runs, slotted_runs}
use Rattle.pass_elide_proof.proofs.releasing.released_instances_are_freed_at_once.Goals as goal
use Rattle.pass_elide_proof.specs.Elision.{framed}

pub returns-clause-start : goal.returns-clause-start
returns-clause-start c = released_first

pub returns-clause-step : goal.returns-clause-step
returns-clause-step c = released_on

pub returns-clause-runs : goal.returns-clause-runs
returns-clause-runs c e entry args n none nests =
    released_runs e entry args (knows_allocas e.code e.layouts.coroutines e.answers) nests
    (slotted_runs (framed e) entry args none) n
