use Rattle.pass_split_proof.proofs.states.Twins.{beside_of, over_of}
use Rattle.pass_split_proof.proofs.states.worlds_stand_beside.Goals as goal

pub returns-clause-over : goal.returns-clause-over
returns-clause-over c = over_of

pub returns-clause-beside : goal.returns-clause-beside
returns-clause-beside c = beside_of
