use Rattle.pass_split_proof.proofs.ready.Gives.{gives_none}
use Rattle.pass_split_proof.proofs.ready.sources_give_no_frame.Goals as goal

pub returns : goal.returns
returns c = gives_none
