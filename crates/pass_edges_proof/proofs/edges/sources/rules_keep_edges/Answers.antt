use Rattle.pass_edges_proof.proofs.edges.sources.Rules.{rules_kept}
use Rattle.pass_edges_proof.proofs.edges.sources.rules_keep_edges.Goals as goal

pub returns : goal.returns
returns c = rules_kept
