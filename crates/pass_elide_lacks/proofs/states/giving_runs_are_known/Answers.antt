use Rattle.pass_elide_lacks.proofs.Lacking.{giving_ends, giving_known}
use Rattle.pass_elide_lacks.proofs.states.giving_runs_are_known.Goals as goal

pub returns-clause-instrs : goal.returns-clause-instrs
returns-clause-instrs c e entry args m keeps more ends k asked call runs =
    giving_known e keeps more ends k entry args m runs asked call

pub returns-clause-ends : goal.returns-clause-ends
returns-clause-ends c e entry args m keeps more ends k call runs =
    giving_ends e keeps more ends k entry args m runs call
