use Rattle.pass_frames_code.proofs.moved.Rest.{moved_related, related_on}
use Rattle.pass_frames_code.proofs.moved.relation_is_moved.Goals as goal

pub returns-clause-same : goal.returns-clause-same
returns-clause-same c = related_on

pub returns-clause-other : goal.returns-clause-other
returns-clause-other c = moved_related
