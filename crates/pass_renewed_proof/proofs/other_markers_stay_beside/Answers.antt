use Rattle.pass_renewed_proof.proofs.OtherMarkers.{other_ends, other_starts}
use Rattle.pass_renewed_proof.proofs.other_markers_stay_beside.Goals as goal

pub returns-clause-starts : goal.returns-clause-starts
returns-clause-starts c = λ m flags roots answers s t beside slot result must_tail ty args is v done.
    other_starts m flags roots answers s t beside slot result must_tail ty args is v done

pub returns-clause-ends : goal.returns-clause-ends
returns-clause-ends c = λ m flags roots answers s t beside slot result must_tail ty args is v done.
    other_ends m flags roots answers s t beside slot result must_tail ty args is v done
