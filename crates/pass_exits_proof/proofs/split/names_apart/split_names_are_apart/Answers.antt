use Rattle.pass_exits_proof.proofs.split.names_apart.Split.{split_at}
use Rattle.pass_exits_proof.proofs.split.names_apart.split_names_are_apart.Goals as goal

pub returns : goal.returns
returns c = split_at
