use Rattle.pass_exits_proof.proofs.exits.rules.Kept.{incoming_once}
use Rattle.pass_exits_proof.proofs.exits.rules.phis_keep_each_label_once.Goals as goal

pub returns : goal.returns
returns c = incoming_once
