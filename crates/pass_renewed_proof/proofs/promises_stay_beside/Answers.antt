use Rattle.pass_renewed_proof.proofs.Promising.{promised_beside}
use Rattle.pass_renewed_proof.proofs.promises_stay_beside.Goals as goal

pub returns : goal.returns
returns c = λ m flags roots keeps s t beside g h code code' i result giving p q k from v e.
    promised_beside m flags roots keeps s t beside g h code code' i result giving p q k from v e
