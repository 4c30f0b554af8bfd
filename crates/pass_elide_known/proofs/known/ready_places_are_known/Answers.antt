use Rattle.pass_elide_known.proofs.Fronting.{known_there}
use Rattle.pass_elide_known.proofs.known.ready_places_are_known.Goals as goal

pub returns : goal.returns
returns c = λ e s t r i keeps more known giving runs there block stands place.
    known_there e keeps more s t r known giving runs i there block stands place
