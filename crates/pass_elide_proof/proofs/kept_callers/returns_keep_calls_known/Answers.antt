use Rattle.pass_elide_proof.proofs.CallersReturned.{resumed_ends_known, rets_known}
use Rattle.pass_elide_proof.proofs.kept_callers.returns_keep_calls_known.Goals as goal

pub returns-clause-rets : goal.returns-clause-rets
returns-clause-rets c = rets_known

pub returns-clause-ends : goal.returns-clause-ends
returns-clause-ends c = resumed_ends_known
