use Rattle.pass_elide_proof.proofs.Standing.{has_code}
use Rattle.pass_elide_proof.proofs.code.elided_functions_have_code.Goals as goal

pub returns : goal.returns
returns c = has_code
