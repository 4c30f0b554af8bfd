use Rattle.pass_exits_proof.proofs.split.edges.Laws.{parts_lead_within}
use Rattle.pass_exits_proof.proofs.split.edges.edges_of_parts_lead_to_their_blocks.Goals as goal

pub returns : goal.returns
returns c = parts_lead_within
