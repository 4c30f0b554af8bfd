use Rattle.pass_frames_code.proofs.lines.Filled.{others_stay, worlds_stand}
use Rattle.pass_frames_code.proofs.lines.ranges_are_filled.Goals as goal

pub returns-clause-others : goal.returns-clause-others
returns-clause-others c = others_stay

pub returns-clause-worlds : goal.returns-clause-worlds
returns-clause-worlds c = worlds_stand
