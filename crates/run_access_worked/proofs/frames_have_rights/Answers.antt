use Rattle.run_access_worked.proofs.Ended.{rights_same, status_leaves}
use Rattle.run_access_worked.proofs.frames_have_rights.Goals as goal

pub returns-clause-same : goal.returns-clause-same
returns-clause-same c = rights_same

pub returns-clause-status : goal.returns-clause-status
returns-clause-status c = status_leaves
