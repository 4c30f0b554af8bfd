use Rattle.pass_elide_proof.proofs.PlacingFrames.{frees_place}
use Rattle.pass_elide_proof.proofs.placing.free_places_are_known.Goals as goal

pub returns : goal.returns
returns c = λ e s t a result must_tail ty args name after r keeps second runs frees there given takes is goes.
    frees_place e keeps s t r second a result must_tail ty args runs frees there given name takes is after goes
