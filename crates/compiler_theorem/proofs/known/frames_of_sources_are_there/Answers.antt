use Rattle.compiler_theorem.proofs.known.Framed.{frames_there}
use Rattle.compiler_theorem.proofs.known.frames_of_sources_are_there.Goals as goal

pub returns : goal.returns
returns c = frames_there
