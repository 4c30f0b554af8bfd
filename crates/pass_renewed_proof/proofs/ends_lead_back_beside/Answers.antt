use Rattle.pass_renewed_proof.proofs.EndReturns.{back_with_nothing}
use Rattle.pass_renewed_proof.proofs.ends_lead_back_beside.Goals as goal

pub returns : goal.returns
returns c = λ m flags roots keeps s t beside over outdone asleep a below is after done.
    back_with_nothing m flags roots keeps s t beside over outdone asleep a below is after done
