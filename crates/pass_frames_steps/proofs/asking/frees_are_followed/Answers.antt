use Rattle.pass_frames_steps.proofs.asking.Freed.{coroutine_frees}
use Rattle.pass_frames_steps.proofs.asking.frees_are_followed.Goals as goal

pub returns : goal.returns
returns c = coroutine_frees
