use Rattle.pass_elide_lacks.proofs.AsideStays.{aside_in_runs}
use Rattle.pass_elide_lacks.proofs.asides.given_ramps_stand_aside.Goals as goal

pub returns : goal.returns
returns c e entry args n keeps ends k asked fine = aside_in_runs e keeps ends k asked entry args n fine
