use Rattle.pass_split_proof.proofs.worked.Resumed.{begun, names_its_suspend, resumed, saved}
use Rattle.pass_split_proof.proofs.worked.a_resume_is_worked_beside.Goals as goal

pub returns-clause-begun : goal.returns-clause-begun
returns-clause-begun c = begun

pub returns-clause-saved : goal.returns-clause-saved
returns-clause-saved c = saved

pub returns-clause-names : goal.returns-clause-names
returns-clause-names c = names_its_suspend

pub returns-clause-resumed : goal.returns-clause-resumed
returns-clause-resumed c = resumed
