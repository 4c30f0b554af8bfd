use Rattle.pass_fetch_proof.proofs.addresses.rules.Placed.{placed_keeps}
use Rattle.pass_fetch_proof.proofs.addresses.rules.addressed_functions_keep_rules.Goals as goal

pub returns : goal.returns
returns c = placed_keeps
