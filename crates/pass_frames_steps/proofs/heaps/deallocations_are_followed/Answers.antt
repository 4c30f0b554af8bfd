use Rattle.pass_frames_steps.proofs.heaps.Given.{coroutine_given_back, other_given_back}
use Rattle.pass_frames_steps.proofs.heaps.deallocations_are_followed.Goals as goal

pub returns-clause-coroutine : goal.returns-clause-coroutine
returns-clause-coroutine c = coroutine_given_back

pub returns-clause-other : goal.returns-clause-other
returns-clause-other c = other_given_back
