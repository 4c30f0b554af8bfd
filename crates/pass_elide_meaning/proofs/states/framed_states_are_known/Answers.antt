use Rattle.pass_elide_meaning.proofs.StatesKnown.{ends_framed, known_framed}
use Rattle.pass_elide_meaning.proofs.states.framed_states_are_known.Goals as goal

pub returns-clause-instrs : goal.returns-clause-instrs
returns-clause-instrs c e entry args n keeps more k call runs lacks =
    known_framed e keeps more k entry args call n runs lacks

pub returns-clause-ends : goal.returns-clause-ends
returns-clause-ends c e entry args n keeps more = ends_framed e keeps more entry args n
