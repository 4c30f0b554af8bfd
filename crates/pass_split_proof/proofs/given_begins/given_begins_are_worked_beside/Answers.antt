use Rattle.pass_split_proof.proofs.given_begins.Worked.{again as again_in, callee, first as first_in}
use Rattle.pass_split_proof.proofs.given_begins.given_begins_are_worked_beside.Goals as goal

pub returns-clause-first : goal.returns-clause-first
returns-clause-first c given resumes destroyer is standing right = first_in given resumes destroyer is standing right

pub returns-clause-again : goal.returns-clause-again
returns-clause-again c given resumes destroyer is standing right = again_in given resumes destroyer is standing right

pub returns-clause-nested : goal.returns-clause-nested
returns-clause-nested c given resumes destroyer other is standing own is' standing' right
    = callee given resumes destroyer other is standing own is' standing' right
