use Rattle.pass_edges_proof.proofs.edges.front_rules.Whole.{jumps_kept}
use Rattle.pass_edges_proof.proofs.edges.front_rules.phis_stay_entered_by_jumps_behind_front_allocas.Goals as goal

pub returns : goal.returns
returns c = jumps_kept
