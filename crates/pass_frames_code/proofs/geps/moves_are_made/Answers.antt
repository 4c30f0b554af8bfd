use Rattle.pass_frames_code.proofs.geps.Moves.{moves_made}
use Rattle.pass_frames_code.proofs.geps.moves_are_made.Goals as goal

pub returns : goal.returns
returns c = moves_made
