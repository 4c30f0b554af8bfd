use Rattle.pass_split_proof.proofs.ready.Steps.{premises_met}
use Rattle.pass_split_proof.proofs.ready.premises_are_met.Goals as goal

pub returns : goal.returns
returns c = λ ls m w answers. premises_met ls m w answers
