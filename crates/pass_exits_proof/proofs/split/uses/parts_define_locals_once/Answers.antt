use Rattle.pass_exits_proof.proofs.split.uses.Laws.{locals_once}
use Rattle.pass_exits_proof.proofs.split.uses.parts_define_locals_once.Goals as goal

pub returns : goal.returns
returns c = locals_once
