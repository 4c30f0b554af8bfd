use Rattle.pass_exits_proof.proofs.split.plain_functions.Whole.{turned_keeps}
use Rattle.pass_exits_proof.proofs.split.plain_functions.turned_functions_keep_plain_rules.Goals as goal

pub returns : goal.returns
returns c = turned_keeps
