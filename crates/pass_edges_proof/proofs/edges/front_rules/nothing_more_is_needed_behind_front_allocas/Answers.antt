use Rattle.pass_edges_proof.proofs.edges.front_rules.Paths.{nothing_kept}
use Rattle.pass_edges_proof.proofs.edges.front_rules.nothing_more_is_needed_behind_front_allocas.Goals as goal

pub returns : goal.returns
returns c = nothing_kept
