use Rattle.pass_fetch_proof.proofs.addresses.spelled.Addressed.{addresses_spelled}
use Rattle.pass_fetch_proof.proofs.addresses.spelled.addresses_can_be_spelled.Goals as goal

pub returns : goal.returns
returns c = addresses_spelled
