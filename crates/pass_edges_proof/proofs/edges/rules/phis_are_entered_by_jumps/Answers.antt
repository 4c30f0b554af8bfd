use Rattle.pass_edges_proof.proofs.edges.rules.Kept.{phis_by_jumps}
use Rattle.pass_edges_proof.proofs.edges.rules.phis_are_entered_by_jumps.Goals as goal

pub returns : goal.returns
returns c = phis_by_jumps
