use Rattle.std.specs.Prelude.{None}
use Rattle.pass_kept_proof.specs.run_memory.declared.pointer.Value.{Value}
use Rattle.pass_renewed_proof.proofs.SavePoints.{save_saves}
use Rattle.pass_renewed_proof.proofs.Saving.{saved_beside}
use Rattle.pass_renewed_proof.proofs.saves_stay_beside.Goals as goal

pub returns : goal.returns
returns c = λ m flags roots keeps s t beside i suspend is n x y own there there' func kept outdone.
    saved_beside m flags roots keeps s t beside suspend (save_saves m flags roots keeps s.top i suspend is) None
    Value.Poison (record { no_part = λ v slot root given. absurd (cc); others = λ v other given. absurd (cc) }) tt n x y
    own there there' func kept outdone
