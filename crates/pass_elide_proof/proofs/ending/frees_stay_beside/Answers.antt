use Rattle.pass_elide_proof.proofs.FreesTogether.{frees_together}
use Rattle.pass_elide_proof.proofs.ending.frees_stay_beside.Goals as goal

pub returns : goal.returns
returns c = λ e s t a result must_tail ty args r at. frees_together e s t a result must_tail ty args t.top.at r at
