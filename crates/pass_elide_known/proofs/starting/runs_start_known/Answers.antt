use Rattle.pass_elide_known.proofs.FirstStates.{framed_start, giving_start}
use Rattle.pass_elide_known.proofs.starting.runs_start_known.Goals as goal

pub returns-clause-framed : goal.returns-clause-framed
returns-clause-framed c = λ e entry args keeps more plain small. framed_start e keeps more entry args plain small

pub returns-clause-giving : goal.returns-clause-giving
returns-clause-giving c = λ e entry args keeps more plain. giving_start e keeps more entry args plain
