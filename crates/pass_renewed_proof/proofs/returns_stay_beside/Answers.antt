use Rattle.pass_renewed_proof.proofs.Returns.{back_to_caller, run_ends}
use Rattle.pass_renewed_proof.proofs.returns_stay_beside.Goals as goal

pub returns-clause-caller : goal.returns-clause-caller
returns-clause-caller c = λ m flags roots keeps s t beside arg here outdone asleep a below is answers v e after done.
    back_to_caller m flags roots keeps s t beside arg here outdone asleep a below is answers v e after done

pub returns-clause-run : goal.returns-clause-run
returns-clause-run c = λ m flags roots keeps s t beside arg here none answers v e after done.
    run_ends m flags roots keeps s t beside arg here none answers v e after done
