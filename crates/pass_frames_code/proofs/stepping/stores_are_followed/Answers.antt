use Rattle.pass_frames_code.proofs.stepping.Stores.{stores_followed}
use Rattle.pass_frames_code.proofs.stepping.stores_are_followed.Goals as goal

pub returns : goal.returns
returns c = stores_followed
