use Rattle.pass_renewed_proof.proofs.Parts.{part_beside}
use Rattle.pass_renewed_proof.proofs.address_parts_stay_beside.Goals as goal

pub returns : goal.returns
returns c = part_beside
