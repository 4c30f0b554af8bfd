use Rattle.pass_elide_apart.proofs.Blocks.{behind_apart}
use Rattle.pass_elide_apart.proofs.apart.woken_activations_stand_apart.Goals as goal

pub returns : goal.returns
returns c e homes hides d a b ends handles alone r k = behind_apart e ends handles alone homes hides d a b r k
