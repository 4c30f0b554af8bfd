use Rattle.pass_exits_proof.proofs.split.names.Sources.{come_from}
use Rattle.pass_exits_proof.proofs.split.names.split_functions_come_from_functions.Goals as goal

pub returns : goal.returns
returns c = come_from
