use Rattle.pass_renewed_proof.proofs.History.{alive_at_suspend, used_at_suspend}
use Rattle.pass_renewed_proof.proofs.windows_keep_slots.Goals as goal

pub returns-clause-used : goal.returns-clause-used
returns-clause-used c = used_at_suspend

pub returns-clause-alive : goal.returns-clause-alive
returns-clause-alive c = alive_at_suspend
