use Rattle.pass_split_proof.proofs.ready.Given.{own_ruler}
use Rattle.pass_split_proof.proofs.ruled.modules_rule_themselves.Goals as goal

pub returns : goal.returns
returns c = own_ruler
