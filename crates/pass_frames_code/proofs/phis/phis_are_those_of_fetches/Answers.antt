use Rattle.pass_frames_code.proofs.phis.Framed.{behind, between}
use Rattle.pass_frames_code.proofs.phis.phis_are_those_of_fetches.Goals as goal

pub returns-clause-loaded : goal.returns-clause-loaded
returns-clause-loaded c = between

pub returns-clause-placed : goal.returns-clause-placed
returns-clause-placed c = behind
