use Rattle.pass_elide_runs.proofs.DestroyEdges.{framed_wakes, giving_wakes}
use Rattle.pass_elide_runs.proofs.waking.destroys_wake_by_edges.Goals as goal

pub returns-clause-framed : goal.returns-clause-framed
returns-clause-framed c e entry args n keeps switches switched = framed_wakes e keeps switches switched entry args n

pub returns-clause-giving : goal.returns-clause-giving
returns-clause-giving c e entry args n keeps switches switched = giving_wakes e keeps switches switched entry args n
