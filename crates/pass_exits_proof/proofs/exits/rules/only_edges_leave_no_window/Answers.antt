use Rattle.pass_exits_proof.proofs.exits.rules.Single.{no_mark}
use Rattle.pass_exits_proof.proofs.exits.rules.only_edges_leave_no_window.Goals as goal

pub returns : goal.returns
returns c = no_mark
