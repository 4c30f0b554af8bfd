use Rattle.pass_split_proof.proofs.states.Headed.{begins}
use Rattle.pass_split_proof.proofs.states.coroutines_begin_beside.Goals as goal

pub returns : goal.returns
returns c g xs x m n u size there fresh frames beside laid sized new roomy resumes destroyer is standing own
    = begins g xs x m n u size there fresh frames beside laid sized new roomy resumes destroyer is standing own
