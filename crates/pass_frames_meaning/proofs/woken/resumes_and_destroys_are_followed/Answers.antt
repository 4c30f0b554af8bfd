use Rattle.pass_frames_meaning.proofs.woken.Wakes.{wakes_followed}
use Rattle.pass_frames_meaning.proofs.woken.resumes_and_destroys_are_followed.Goals as goal

pub returns : goal.returns
returns c = wakes_followed
