use Rattle.pass_renewed_proof.proofs.Ending.{end_beside}
use Rattle.pass_renewed_proof.proofs.ends_of_slots_stay_beside.Goals as goal

pub returns : goal.returns
returns c = λ m flags roots keeps answers s t beside slot result must_tail ty args is v done.
    end_beside m flags roots keeps s t beside slot result must_tail ty args is answers v done
