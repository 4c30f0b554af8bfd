use Rattle.pass_fetch_proof.proofs.addresses.rules.Placed.{placed_once}
use Rattle.pass_fetch_proof.proofs.addresses.rules.addressed_phis_have_each_label_once.Goals as goal

pub returns : goal.returns
returns c = placed_once
