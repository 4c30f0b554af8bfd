use Rattle.pass_frames_steps.proofs.copying.Followed.{coroutine_copied, other_copied}
use Rattle.pass_frames_steps.proofs.copying.copies_are_followed.Goals as goal

pub returns-clause-coroutine : goal.returns-clause-coroutine
returns-clause-coroutine c = coroutine_copied

pub returns-clause-other : goal.returns-clause-other
returns-clause-other c = other_copied
