use Rattle.pass_frames_proof.proofs.leaving.Alike.{branch_alike, edge_leaves_none}
use Rattle.pass_frames_proof.proofs.leaving.branches_leave_the_same_windows.Goals as goal

pub returns-clause-ends : goal.returns-clause-ends
returns-clause-ends c = branch_alike

pub returns-clause-edges : goal.returns-clause-edges
returns-clause-edges c = edge_leaves_none
