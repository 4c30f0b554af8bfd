use Rattle.pass_frames_code.proofs.tests.Points.{calls_moved}
use Rattle.pass_frames_code.proofs.tests.calls_stand_at_their_places.Goals as goal

pub returns : goal.returns
returns c = calls_moved
