use Rattle.pass_frames_meaning.proofs.accesses.accesses_of_coroutines_are_followed.Goals as goal
use Rattle.pass_frames_meaning.proofs.coroutines.Located.{located_followed}

pub returns : goal.returns
returns c = located_followed
