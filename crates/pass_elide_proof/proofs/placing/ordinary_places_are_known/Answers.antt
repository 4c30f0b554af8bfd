use Rattle.pass_elide_proof.proofs.PlacingKinds.{ordinary}
use Rattle.pass_elide_proof.proofs.placing.ordinary_places_are_known.Goals as goal

pub returns : goal.returns
returns c = λ e s t i v r keeps by at plain none no_slot does.
    ordinary e keeps s t r.top.func by i v at plain none no_slot does
