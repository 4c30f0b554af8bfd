use Rattle.pass_elide_proof.proofs.Rooms.{room_is_given}
use Rattle.pass_elide_proof.proofs.beginning.rooms_are_given.Goals as goal

pub returns : goal.returns
returns c = room_is_given
