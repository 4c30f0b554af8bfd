use Rattle.pass_elide_lacks.proofs.Lacking.{giving_counts}
use Rattle.pass_elide_lacks.proofs.slots.slots_of_giving_runs_are_counted.Goals as goal

pub returns : goal.returns
returns c e entry args n keeps more fine = giving_counts e keeps more entry args n fine
