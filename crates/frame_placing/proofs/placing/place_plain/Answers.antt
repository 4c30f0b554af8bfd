use Rattle.frame_placing.proofs.Choosing.{plain_too_large}
use Rattle.frame_placing.proofs.placing.place_plain.Goals as goal

pub returns-in-None : goal.returns-in-None
returns-in-None c = plain_too_large c.args.rooms.now c.args.promise (rw c.in-None.is at c.in_ok-place_behind.ensures)
