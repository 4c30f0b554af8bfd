use Rattle.pass_elide_proof.proofs.Calls.{calls_keep}
use Rattle.pass_elide_proof.proofs.keeping.calls_keep_callers.Goals as goal

pub returns : goal.returns
returns c = calls_keep
