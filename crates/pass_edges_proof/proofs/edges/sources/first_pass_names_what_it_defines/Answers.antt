use Rattle.pass_edges_proof.proofs.edges.sources.Accepted.{locals_now}
use Rattle.pass_edges_proof.proofs.edges.sources.first_pass_names_what_it_defines.Goals as goal

pub returns : goal.returns
returns c = locals_now
