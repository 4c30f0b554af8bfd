use Rattle.pass_frames_meaning.proofs.ends.Coming.{end_known}
use Rattle.pass_frames_meaning.proofs.ends.ends_have_instances.Goals as goal

pub returns : goal.returns
returns c = end_known
