use Rattle.pass_frames_meaning.proofs.woken.Cells.{cells_states}
use Rattle.pass_frames_meaning.proofs.woken.cells_are_there_on_the_way.Goals as goal

pub returns : goal.returns
returns c = cells_states
