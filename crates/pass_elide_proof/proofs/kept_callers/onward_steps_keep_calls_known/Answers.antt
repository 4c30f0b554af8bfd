use Rattle.pass_elide_proof.proofs.CallersMoved.{allocas_known, edges_known, ramp_ends_known, saves_known}
use Rattle.pass_elide_proof.proofs.CallersStay.{allocators_known, done_known, gives_only_known, markers_known}
use Rattle.pass_elide_proof.proofs.kept_callers.onward_steps_keep_calls_known.Goals as goal

pub returns-clause-done : goal.returns-clause-done
returns-clause-done c = done_known

pub returns-clause-allocators : goal.returns-clause-allocators
returns-clause-allocators c = allocators_known

pub returns-clause-markers : goal.returns-clause-markers
returns-clause-markers c = markers_known

pub returns-clause-allocas : goal.returns-clause-allocas
returns-clause-allocas c = allocas_known

pub returns-clause-edges : goal.returns-clause-edges
returns-clause-edges c = edges_known

pub returns-clause-given : goal.returns-clause-given
returns-clause-given c = gives_only_known

pub returns-clause-saves : goal.returns-clause-saves
returns-clause-saves c = saves_known

pub returns-clause-ends : goal.returns-clause-ends
returns-clause-ends c = ramp_ends_known
