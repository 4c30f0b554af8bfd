use Rattle.pass_edges_proof.proofs.kept.sources.Names.{plain_names}
use Rattle.pass_edges_proof.proofs.kept.sources.functions_have_plain_names.Goals as goal

pub returns : goal.returns
returns c = plain_names
