use Rattle.pass_elide_proof.proofs.PlacingKinds.{asking_place}
use Rattle.pass_elide_proof.proofs.placing.requests_are_known.Goals as goal

pub returns : goal.returns
returns c = λ e s t j result must_tail ty args r keeps by at is.
    asking_place e keeps s t r.top.func by j result must_tail ty args at is
