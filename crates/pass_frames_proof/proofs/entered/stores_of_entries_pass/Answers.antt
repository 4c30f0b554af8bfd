use Rattle.pass_frames_proof.proofs.entered.Ways.{stores_pass}
use Rattle.pass_frames_proof.proofs.entered.stores_of_entries_pass.Goals as goal

pub returns : goal.returns
returns c = stores_pass
