use Rattle.pass_renewed_proof.proofs.Left.{end_next, left_closed, save_next, window_branch, window_next}
use Rattle.pass_renewed_proof.proofs.left_points_go_on.Goals as goal

pub returns-clause-saved : goal.returns-clause-saved
returns-clause-saved c = save_next

pub returns-clause-goes_on : goal.returns-clause-goes_on
returns-clause-goes_on c = window_next

pub returns-clause-branches : goal.returns-clause-branches
returns-clause-branches c = window_branch

pub returns-clause-ended : goal.returns-clause-ended
returns-clause-ended c = end_next

pub returns-clause-closed : goal.returns-clause-closed
returns-clause-closed c = left_closed
