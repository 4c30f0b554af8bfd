use Rattle.pass_frames_meaning.proofs.coroutines.Calls.{allocator_followed, asking_followed, copying_followed, free_followed, named_followed}
use Rattle.pass_frames_meaning.proofs.coroutines.calls_of_coroutines_are_followed.Goals as goal

pub returns-clause-named : goal.returns-clause-named
returns-clause-named c = named_followed

pub returns-clause-allocators : goal.returns-clause-allocators
returns-clause-allocators c = allocator_followed

pub returns-clause-asking : goal.returns-clause-asking
returns-clause-asking c = asking_followed

pub returns-clause-frees : goal.returns-clause-frees
returns-clause-frees c = free_followed

pub returns-clause-copies : goal.returns-clause-copies
returns-clause-copies c = copying_followed
