use Rattle.pass_frames_meaning.proofs.coroutines.Ends.{end_followed}
use Rattle.pass_frames_meaning.proofs.coroutines.ends_of_coroutines_are_led_back.Goals as goal

pub returns : goal.returns
returns c = end_followed
