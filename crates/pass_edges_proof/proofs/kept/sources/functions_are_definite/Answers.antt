use Rattle.pass_edges_proof.proofs.kept.sources.Definite.{definite}
use Rattle.pass_edges_proof.proofs.kept.sources.functions_are_definite.Goals as goal

pub returns : goal.returns
returns c = definite
