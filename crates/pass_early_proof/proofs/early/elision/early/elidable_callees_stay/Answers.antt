use Rattle.pass_early_proof.proofs.early.elision.early.Laws.{callees_of_source}
use Rattle.pass_early_proof.proofs.early.elision.early.elidable_callees_stay.Goals as goal

pub returns : goal.returns
returns c = callees_of_source
