use Rattle.pass_fetch_proof.proofs.copies.shape.Copies.{copies_keep}
use Rattle.pass_fetch_proof.proofs.copies.shape.copies_keep_calls.Goals as goal

pub returns : goal.returns
returns c = copies_keep
