use Rattle.pass_elide_lacks.proofs.EndsKept.{framed_kept}
use Rattle.pass_elide_lacks.proofs.ends.framed_runs_are_kept.Goals as goal

pub returns : goal.returns
returns c e entry args n keeps more k endings call runs = framed_kept e keeps more k endings entry args call n runs
