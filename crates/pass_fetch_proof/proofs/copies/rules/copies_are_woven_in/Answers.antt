use Rattle.pass_fetch_proof.proofs.copies.rules.KeptCopies.{with_copies_woven}
use Rattle.pass_fetch_proof.proofs.copies.rules.copies_are_woven_in.Goals as goal

pub returns : goal.returns
returns c = with_copies_woven
