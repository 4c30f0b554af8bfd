use Rattle.pass_frames_meaning.proofs.giving.Owned.{frames_owned, no_heap_slots}
use Rattle.pass_frames_meaning.proofs.giving.slotted_states_own_their_frames.Goals as goal

pub returns-clause-owned : goal.returns-clause-owned
returns-clause-owned c = frames_owned

pub returns-clause-heapless : goal.returns-clause-heapless
returns-clause-heapless c = no_heap_slots
