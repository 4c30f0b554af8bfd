use Rattle.pass_frames_meaning.proofs.once.States.{begun_once, place_once}
use Rattle.pass_frames_meaning.proofs.once.slots_are_made_once.Goals as goal

pub returns-clause-placed : goal.returns-clause-placed
returns-clause-placed c = place_once

pub returns-clause-begun : goal.returns-clause-begun
returns-clause-begun c = begun_once
