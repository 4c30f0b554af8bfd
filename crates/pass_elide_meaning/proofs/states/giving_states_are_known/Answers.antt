use Rattle.pass_elide_meaning.proofs.StatesKnown.{ends_giving, known_giving}
use Rattle.pass_elide_meaning.proofs.states.giving_states_are_known.Goals as goal

pub returns-clause-instrs : goal.returns-clause-instrs
returns-clause-instrs c e entry args m keeps more k call runs counts lacks =
    known_giving e keeps k entry args call m runs counts more lacks

pub returns-clause-ends : goal.returns-clause-ends
returns-clause-ends c e entry args m keeps k call runs counts = ends_giving e keeps k entry args call m runs counts
