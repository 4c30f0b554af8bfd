use Rattle.pass_elide_proof.proofs.DestroyingWorked.{worked_behind, worked_to_free}
use Rattle.pass_elide_proof.proofs.destroying.a_worked_activation_is_to_free.Goals as goal

pub returns-clause-to_free : goal.returns-clause-to_free
returns-clause-to_free c = worked_to_free

pub returns-clause-behind : goal.returns-clause-behind
returns-clause-behind c = worked_behind
