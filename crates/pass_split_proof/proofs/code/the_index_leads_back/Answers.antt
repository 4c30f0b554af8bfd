use Rattle.pass_split_proof.proofs.code.Dispatch.{index_leads_back}
use Rattle.pass_split_proof.proofs.code.the_index_leads_back.Goals as goal

pub returns : goal.returns
returns c = index_leads_back
