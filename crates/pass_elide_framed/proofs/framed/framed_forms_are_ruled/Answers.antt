use Rattle.pass_elide_framed.proofs.Ruled.{ruled}
use Rattle.pass_elide_framed.proofs.framed.framed_forms_are_ruled.Goals as goal

pub returns : goal.returns
returns c = ruled
