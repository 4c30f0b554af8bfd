use Rattle.pass_frames_code.proofs.phis.Fronts.{stores_alone}
use Rattle.pass_frames_code.proofs.phis.fronts_are_stores.Goals as goal

pub returns : goal.returns
returns c = stores_alone
