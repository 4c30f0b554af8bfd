use Rattle.pass_split_proof.proofs.places.Values.{same_values}
use Rattle.pass_split_proof.proofs.places.edges_set_phis_to_the_same.Goals as goal

pub returns : goal.returns
returns c = λ s part f g block from label e m env. same_values m env s part f g block from label e
