use Rattle.pass_exits_proof.proofs.split.uses.Laws.{uses_made}
use Rattle.pass_exits_proof.proofs.split.uses.parts_make_what_they_use.Goals as goal

pub returns : goal.returns
returns c = uses_made
