use Rattle.pass_elide.proofs.Unchanged.{no-callees}
use Rattle.pass_elide.proofs.laws.coroutines_without_callees_stay.Goals as goal

pub returns : goal.returns
returns c = no-callees
