use Rattle.pass_exits_proof.proofs.split.exits.Whole.{splittable_kept}
use Rattle.pass_exits_proof.proofs.split.exits.exits_keep_splittable.Goals as goal

pub returns : goal.returns
returns c = splittable_kept
