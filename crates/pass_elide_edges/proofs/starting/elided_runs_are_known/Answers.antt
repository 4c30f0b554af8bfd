use Rattle.pass_elide_edges.proofs.Begins.{elided_begins}
use Rattle.pass_elide_edges.proofs.starting.elided_runs_are_known.Goals as goal
use Rattle.pass_elide_proof.proofs.PlacingKnown.{states_known}
use Rattle.pass_elide_proof.specs.Elision.{elided}

pub returns-clause-begins : goal.returns-clause-begins
returns-clause-begins c = elided_begins

pub returns-clause-runs : goal.returns-clause-runs
returns-clause-runs c = λ e entry args n keeps. states_known (elided e) (elided_begins e keeps) entry args n
