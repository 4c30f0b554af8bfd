use Rattle.pass_split_proof.proofs.code.Numbers.{has_number}
use Rattle.pass_split_proof.proofs.code.suspends_have_numbers.Goals as goal

pub returns : goal.returns
returns c = has_number
