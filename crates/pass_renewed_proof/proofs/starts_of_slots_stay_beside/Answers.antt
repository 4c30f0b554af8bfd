use Rattle.pass_renewed_proof.proofs.Starting.{start_beside}
use Rattle.pass_renewed_proof.proofs.starts_of_slots_stay_beside.Goals as goal

pub returns : goal.returns
returns c = λ m flags roots keeps answers s t beside slot result must_tail ty args is outdone asleep v done.
    start_beside m flags roots keeps s t beside slot result must_tail ty args is outdone asleep answers v done
