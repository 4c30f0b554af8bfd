use Rattle.pass_split_ruled.proofs.Rulers.{called_ramps}
use Rattle.pass_split_ruled.proofs.ramps.called_ramps_stand.Goals as goal

pub returns : goal.returns
returns c = called_ramps
