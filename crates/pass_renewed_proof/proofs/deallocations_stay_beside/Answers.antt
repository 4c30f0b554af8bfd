use Rattle.pass_renewed_proof.proofs.Deallocating.{deallocated_beside}
use Rattle.pass_renewed_proof.proofs.deallocations_stay_beside.Goals as goal

pub returns : goal.returns
returns c = λ m flags roots keeps i s t beside giving p q k after e. deallocated_beside m flags roots keeps i s t beside
    giving p q k after e
