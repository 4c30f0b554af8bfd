use Rattle.pass_renewed_proof.proofs.GoingTo.{gone_to}
use Rattle.pass_renewed_proof.proofs.labels_are_reached_beside.Goals as goal

pub returns : goal.returns
returns c = λ flags roots g h same keeps s t beside label branching windows facts outdone asleep after later k.
    gone_to flags roots g h same keeps s t beside label branching windows facts outdone asleep after later k
