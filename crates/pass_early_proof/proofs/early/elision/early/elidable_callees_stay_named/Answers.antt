use Rattle.pass_early_proof.proofs.early.elision.early.Laws.{callees_named}
use Rattle.pass_early_proof.proofs.early.elision.early.elidable_callees_stay_named.Goals as goal

pub returns : goal.returns
returns c = callees_named
