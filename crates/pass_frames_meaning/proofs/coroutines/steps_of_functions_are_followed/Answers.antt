use Rattle.pass_frames_meaning.proofs.coroutines.Functions.{all_followed}
use Rattle.pass_frames_meaning.proofs.coroutines.steps_of_functions_are_followed.Goals as goal

pub returns : goal.returns
returns c = all_followed
