use Rattle.pass_exits_proof.proofs.split.spelled.Split.{parts_spelled}
use Rattle.pass_exits_proof.proofs.split.spelled.parts_can_be_spelled.Goals as goal

pub returns : goal.returns
returns c = parts_spelled
