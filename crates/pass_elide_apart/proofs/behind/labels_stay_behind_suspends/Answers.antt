use Rattle.pass_elide_apart.proofs.Runs.{behind_in_runs, each_in_runs}
use Rattle.pass_elide_apart.proofs.behind.labels_stay_behind_suspends.Goals as goal

pub returns-clause-runs : goal.returns-clause-runs
returns-clause-runs c g entry args n switches switched knows nests =
    (each_in_runs g switches switched knows nests entry args n).1

pub returns-clause-framed : goal.returns-clause-framed
returns-clause-framed c e entry args n keeps k nests = behind_in_runs e keeps k nests entry args n
