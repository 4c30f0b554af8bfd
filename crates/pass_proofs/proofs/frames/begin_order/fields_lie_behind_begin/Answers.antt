use Rattle.pass_proofs.proofs.frames.begin_order.Celled.{cells_behind}
use Rattle.pass_proofs.proofs.frames.begin_order.fields_lie_behind_begin.Goals as goal

pub returns : goal.returns
returns c = cells_behind
