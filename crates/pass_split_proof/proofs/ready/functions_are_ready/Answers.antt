use Rattle.pass_split_proof.proofs.ready.Functions.{functions_met}
use Rattle.pass_split_proof.proofs.ready.functions_are_ready.Goals as goal

pub returns : goal.returns
returns c = λ ls m w answers. functions_met ls m w answers
