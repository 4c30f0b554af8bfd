use Rattle.pass_elide_apart.proofs.Runs.{each_in_runs, giving_counts}
use Rattle.pass_elide_apart.proofs.behind.slots_are_counted_in_runs.Goals as goal

pub returns-clause-instances : goal.returns-clause-instances
returns-clause-instances c g entry args n switches switched knows nests =
    (each_in_runs g switches switched knows nests entry args n).0

pub returns-clause-giving : goal.returns-clause-giving
returns-clause-giving c e entry args n keeps k nests = giving_counts e keeps k nests entry args n
