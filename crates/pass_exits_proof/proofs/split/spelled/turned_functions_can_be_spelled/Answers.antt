use Rattle.pass_exits_proof.proofs.split.spelled.Split.{turned_spelled}
use Rattle.pass_exits_proof.proofs.split.spelled.turned_functions_can_be_spelled.Goals as goal

pub returns : goal.returns
returns c = turned_spelled
