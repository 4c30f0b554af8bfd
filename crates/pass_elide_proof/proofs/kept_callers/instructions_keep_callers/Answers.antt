use Rattle.pass_elide_proof.proofs.CallersAgain.{again_keeps}
use Rattle.pass_elide_proof.proofs.CallersInstr.{done_keeps}
use Rattle.pass_elide_proof.proofs.CallersMaking.{allocas_keep, allocators_keep, ends_keep, starts_keep}
use Rattle.pass_elide_proof.proofs.kept_callers.instructions_keep_callers.Goals as goal

pub returns-clause-done : goal.returns-clause-done
returns-clause-done c = done_keeps

pub returns-clause-allocators : goal.returns-clause-allocators
returns-clause-allocators c = allocators_keep

pub returns-clause-starts : goal.returns-clause-starts
returns-clause-starts c = λ e t at result must_tail ty args k h. starts_keep e t at result must_tail ty args h k

pub returns-clause-ends : goal.returns-clause-ends
returns-clause-ends c = λ e t at result must_tail ty args k free h. ends_keep e t at result must_tail ty args h k free

pub returns-clause-allocas : goal.returns-clause-allocas
returns-clause-allocas c = allocas_keep

pub returns-clause-again : goal.returns-clause-again
returns-clause-again c =
    λ e t at name ty align from label k inside mode. again_keeps e t at name ty align k inside from label mode
