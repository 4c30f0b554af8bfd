use Rattle.pass_frames_code.proofs.layers.Grown.{both_becomes, both_ended, both_made, both_woven}
use Rattle.pass_frames_code.proofs.layers.layers_compose.Goals as goal

pub returns-clause-becomes : goal.returns-clause-becomes
returns-clause-becomes g c = both_becomes

pub returns-clause-instrs : goal.returns-clause-instrs
returns-clause-instrs g c = both_woven

pub returns-clause-term : goal.returns-clause-term
returns-clause-term g c = both_ended

pub returns-clause-blocks : goal.returns-clause-blocks
returns-clause-blocks g c = both_made
