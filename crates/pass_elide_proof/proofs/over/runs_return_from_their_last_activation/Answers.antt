use Rattle.pass_elide_proof.proofs.LastReturns.{runs_over_alone}
use Rattle.pass_elide_proof.proofs.over.runs_return_from_their_last_activation.Goals as goal

pub returns : goal.returns
returns c = runs_over_alone
