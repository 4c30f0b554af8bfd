use Rattle.pass_elide_proof.proofs.CallersBack.{rets_keep}
use Rattle.pass_elide_proof.proofs.kept_callers.returns_keep_callers.Goals as goal

pub returns : goal.returns
returns c = λ e t k handles own links h. rets_keep e t k h handles own links
