use Rattle.pass_split_proof.proofs.ready.Steps.{places_met}
use Rattle.pass_split_proof.proofs.ready.places_are_ready.Goals as goal

pub returns : goal.returns
returns c = λ ls m w answers s t r. places_met ls m w answers s t r
