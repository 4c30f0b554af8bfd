use Rattle.pass_elide_proof.proofs.CallersWaking.{destroys_keep, resumes_keep}
use Rattle.pass_elide_proof.proofs.kept_callers.wakings_keep_callers.Goals as goal

pub returns-clause-resumes : goal.returns-clause-resumes
returns-clause-resumes c = λ e t at result must_tail ty args k h. resumes_keep e t at result must_tail ty args h k

pub returns-clause-destroys : goal.returns-clause-destroys
returns-clause-destroys c =
    λ e t at result must_tail ty args k none edges h. destroys_keep e t at result must_tail ty args h k none edges
