use Rattle.pass_frames_code.proofs.ordinary.Stores.{store_made}
use Rattle.pass_frames_code.proofs.ordinary.stores_are_made.Goals as goal

pub returns : goal.returns
returns c = store_made
