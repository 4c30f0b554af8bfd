use Rattle.pass_renewed_proof.proofs.AnewAll.{all_anew}
use Rattle.pass_renewed_proof.proofs.slots_made_anew_keep_all.Goals as goal

pub returns : goal.returns
returns c = λ m memory depth tenant g from label l s xs st e.
    let r = all_anew m memory depth tenant g from label l s xs st e
    in (r.0, r.1.homes, r.1.hides, r.1.seats, r.1.entered, r.1.standing)
