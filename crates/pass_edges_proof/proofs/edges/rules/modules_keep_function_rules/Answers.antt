use Rattle.pass_edges_proof.proofs.edges.rules.Modules.{modules_kept}
use Rattle.pass_edges_proof.proofs.edges.rules.modules_keep_function_rules.Goals as goal

pub returns : goal.returns
returns c = modules_kept
