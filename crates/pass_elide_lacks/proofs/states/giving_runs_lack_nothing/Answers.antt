use Rattle.pass_elide_lacks.proofs.Lacking.{giving_lacks}
use Rattle.pass_elide_lacks.proofs.states.giving_runs_lack_nothing.Goals as goal

pub returns : goal.returns
returns c e entry args m keeps more ends k asked runs = giving_lacks e keeps more ends k entry args m runs asked
