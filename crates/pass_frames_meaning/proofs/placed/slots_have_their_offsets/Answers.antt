use Rattle.pass_frames_meaning.proofs.placed.Placed.{held_once, offsets_placed}
use Rattle.pass_frames_meaning.proofs.placed.slots_have_their_offsets.Goals as goal

pub returns-clause-once : goal.returns-clause-once
returns-clause-once c = held_once

pub returns-clause-offsets : goal.returns-clause-offsets
returns-clause-offsets c = offsets_placed
