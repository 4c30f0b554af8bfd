use Rattle.std.specs.Prelude.{negsuc, refl}
use Rattle.pass_kept_proof.specs.run_step.Values.{integer}
use Rattle.pass_renewed_proof.proofs.SavePoints.{suspend_saves}
use Rattle.pass_renewed_proof.proofs.Saving.{saved_beside}
use Rattle.pass_renewed_proof.specs.Beside.{place_in}
use Rattle.pass_renewed_proof.proofs.suspends_stay_beside.Goals as goal

pub returns : goal.returns
returns c = λ m flags roots keeps s t beside i result is n x y own there there' func kept outdone.
    saved_beside m flags roots keeps s t beside (place_in s.top) (suspend_saves m flags roots keeps s.top i result is)
    result (integer 8 (negsuc 0)) (record {
      no_part = is.giving.no_part;
      others = λ v other given. absurd (is.giving.no_alloca v other.made given);
    }) refl n x y own there there' func kept outdone
