use Rattle.pass_split_proof.proofs.code.Positions.{part_numbered}
use Rattle.pass_split_proof.proofs.code.parts_stand_in_order.Goals as goal

pub returns : goal.returns
returns c = part_numbered
