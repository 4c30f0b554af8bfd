use Rattle.frame_placing.proofs.Choosing.{if_by_none}
use Rattle.frame_placing.proofs.placing.place.Goals as goal

pub returns : goal.returns
returns c = if_by_none c.args.rooms.now c.args.promise c.args.conflicts.now c.place_by.result c.place_by.ensures
