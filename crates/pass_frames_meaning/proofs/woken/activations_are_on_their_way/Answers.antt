use Rattle.pass_frames_meaning.proofs.woken.Way.{way_states}
use Rattle.pass_frames_meaning.proofs.woken.activations_are_on_their_way.Goals as goal

pub returns : goal.returns
returns c = way_states
