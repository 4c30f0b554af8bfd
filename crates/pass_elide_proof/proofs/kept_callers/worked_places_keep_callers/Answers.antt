use Rattle.pass_elide_proof.proofs.CallersWorked.{worked_apart, worked_called, worked_destroy, worked_edges, worked_handles, worked_resume, worked_ret, worked_returns}
use Rattle.pass_elide_proof.proofs.kept_callers.worked_places_keep_callers.Goals as goal

pub returns-clause-handles : goal.returns-clause-handles
returns-clause-handles c = worked_handles

pub returns-clause-frame : goal.returns-clause-frame
returns-clause-frame c = worked_returns

pub returns-clause-ret : goal.returns-clause-ret
returns-clause-ret c = worked_ret

pub returns-clause-called : goal.returns-clause-called
returns-clause-called c = worked_called

pub returns-clause-resume : goal.returns-clause-resume
returns-clause-resume c = worked_resume

pub returns-clause-destroy : goal.returns-clause-destroy
returns-clause-destroy c = worked_destroy

pub returns-clause-edges : goal.returns-clause-edges
returns-clause-edges c = worked_edges

pub returns-clause-apart : goal.returns-clause-apart
returns-clause-apart c = worked_apart
