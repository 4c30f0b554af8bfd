use Rattle.pass_elide_meaning.proofs.LacksFirst.{framed_lacks, giving_lacks}
use Rattle.pass_elide_meaning.proofs.states.runs_start_lacking_nothing.Goals as goal

pub returns-clause-framed : goal.returns-clause-framed
returns-clause-framed c e entry args keeps more k call = framed_lacks e keeps more entry args call k

pub returns-clause-giving : goal.returns-clause-giving
returns-clause-giving c e entry args keeps more call = giving_lacks e keeps more entry args call
