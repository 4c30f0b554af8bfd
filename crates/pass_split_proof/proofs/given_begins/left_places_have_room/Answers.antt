use Rattle.pass_split_proof.proofs.given_begins.Places.{has_room}
use Rattle.pass_split_proof.proofs.given_begins.left_places_have_room.Goals as goal

pub returns : goal.returns
returns c = has_room
