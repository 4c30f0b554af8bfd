use Rattle.pass_edges_proof.proofs.edges.sources.Known.{modules_keep}
use Rattle.pass_edges_proof.proofs.edges.sources.rules_keep_edges_of_modules.Goals as goal

pub returns : goal.returns
returns c = modules_keep
