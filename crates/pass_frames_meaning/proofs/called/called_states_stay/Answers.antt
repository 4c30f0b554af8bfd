use Rattle.pass_frames_meaning.proofs.called.Called.{step_called}
use Rattle.pass_frames_meaning.proofs.called.called_states_stay.Goals as goal

pub returns : goal.returns
returns c = step_called
