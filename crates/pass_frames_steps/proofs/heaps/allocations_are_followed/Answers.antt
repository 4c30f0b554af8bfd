use Rattle.pass_frames_steps.proofs.heaps.Making.{coroutine_made, other_made}
use Rattle.pass_frames_steps.proofs.heaps.allocations_are_followed.Goals as goal

pub returns-clause-coroutine : goal.returns-clause-coroutine
returns-clause-coroutine c = coroutine_made

pub returns-clause-other : goal.returns-clause-other
returns-clause-other c = other_made
