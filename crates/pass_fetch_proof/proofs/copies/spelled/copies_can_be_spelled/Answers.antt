use Rattle.pass_fetch_proof.proofs.copies.spelled.Copied.{copies_spelled_in}
use Rattle.pass_fetch_proof.proofs.copies.spelled.copies_can_be_spelled.Goals as goal

pub returns : goal.returns
returns c = copies_spelled_in
