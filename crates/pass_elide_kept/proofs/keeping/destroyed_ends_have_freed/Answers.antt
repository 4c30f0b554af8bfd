use Rattle.pass_elide_kept.proofs.FreedEnds.{ends_freed}
use Rattle.pass_elide_kept.proofs.keeping.destroyed_ends_have_freed.Goals as goal

pub returns : goal.returns
returns c = ends_freed
