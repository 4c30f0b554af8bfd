use Rattle.pass_exits_proof.proofs.split.spelled.Reachable.{parts_filled}
use Rattle.pass_exits_proof.proofs.split.spelled.parts_have_operands_for_their_phis.Goals as goal

pub returns : goal.returns
returns c = parts_filled
