use Rattle.pass_elide_proof.proofs.Done.{done_beside}
use Rattle.pass_elide_proof.proofs.Promised.{promise_beside}
use Rattle.pass_elide_proof.proofs.intrinsics.looks_stay_beside.Goals as goal

pub returns-clause-done : goal.returns-clause-done
returns-clause-done c = done_beside

pub returns-clause-promise : goal.returns-clause-promise
returns-clause-promise c = promise_beside
