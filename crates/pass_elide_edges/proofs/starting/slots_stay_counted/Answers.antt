use Rattle.pass_elide_edges.proofs.Freed.{slots_counted}
use Rattle.pass_elide_edges.proofs.starting.slots_stay_counted.Goals as goal

pub returns : goal.returns
returns c = slots_counted
