use Rattle.pass_frames_steps.proofs.asking.Coroutines.{coroutine_asked}
use Rattle.pass_frames_steps.proofs.asking.Others.{other_asked}
use Rattle.pass_frames_steps.proofs.asking.asking_is_followed.Goals as goal

pub returns-clause-coroutine : goal.returns-clause-coroutine
returns-clause-coroutine c = coroutine_asked

pub returns-clause-other : goal.returns-clause-other
returns-clause-other c = other_asked
