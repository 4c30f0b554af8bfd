use Rattle.pass_edges_proof.proofs.edges.front_rules.Whole.{all_kept}
use Rattle.pass_edges_proof.proofs.edges.front_rules.coroutines_with_front_allocas_are_kept.Goals as goal

pub returns : goal.returns
returns c = all_kept
