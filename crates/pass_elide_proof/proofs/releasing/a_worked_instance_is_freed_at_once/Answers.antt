use Rattle.std.proofs.Common.{refl}
use Rattle.pass_elide_proof.proofs.ReleasedWorked.{worked_frees, worked_releasing}
use Rattle.pass_elide_proof.proofs.releasing.a_worked_instance_is_freed_at_once.Goals as goal

pub returns-clause-frees : goal.returns-clause-frees
returns-clause-frees c = worked_frees

pub returns-clause-released : goal.returns-clause-released
returns-clause-released c = worked_releasing

pub returns-clause-freed : goal.returns-clause-freed
returns-clause-freed c = (_, refl, refl)
