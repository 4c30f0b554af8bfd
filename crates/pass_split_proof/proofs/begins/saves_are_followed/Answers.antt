use Rattle.pass_split_proof.proofs.begins.SaveFollowed.{save_followed}
use Rattle.pass_split_proof.proofs.begins.saves_are_followed.Goals as goal

pub returns : goal.returns
returns c = save_followed
