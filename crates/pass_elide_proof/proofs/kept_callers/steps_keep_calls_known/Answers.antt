use Rattle.pass_elide_proof.proofs.CallersBegun.{begin_known}
use Rattle.pass_elide_proof.proofs.CallersKnown.{calls_known, destroys_known, resumes_known, sites_known}
use Rattle.pass_elide_proof.proofs.kept_callers.steps_keep_calls_known.Goals as goal

pub returns-clause-calls : goal.returns-clause-calls
returns-clause-calls c = calls_known

pub returns-clause-sites : goal.returns-clause-sites
returns-clause-sites c = sites_known

pub returns-clause-resumes : goal.returns-clause-resumes
returns-clause-resumes c = λ e t at result must_tail ty args k h. resumes_known e t at result must_tail ty args h k

pub returns-clause-destroys : goal.returns-clause-destroys
returns-clause-destroys c = λ e t at result must_tail ty args k h. destroys_known e t at result must_tail ty args h k

pub returns-clause-begins : goal.returns-clause-begins
returns-clause-begins c = begin_known
