use Rattle.pass_elide_ready.proofs.Uncrossed.{crosses_none, phi_crosses_none}
use Rattle.pass_elide_ready.proofs.crossing.values_used_in_their_blocks_cross_nothing.Goals as goal

pub returns-clause-instrs : goal.returns-clause-instrs
returns-clause-instrs c = crosses_none

pub returns-clause-phis : goal.returns-clause-phis
returns-clause-phis c = phi_crosses_none
