use Rattle.pass_fetch_proof.proofs.copies.rules.KeptCopies.{with_copies_keeps}
use Rattle.pass_fetch_proof.proofs.copies.rules.copied_functions_keep_rules.Goals as goal

pub returns : goal.returns
returns c = with_copies_keeps
