use Rattle.pass_exits_proof.proofs.split.uses.Laws.{locals_known}
use Rattle.pass_exits_proof.proofs.split.uses.parts_name_their_own_locals.Goals as goal

pub returns : goal.returns
returns c = locals_known
