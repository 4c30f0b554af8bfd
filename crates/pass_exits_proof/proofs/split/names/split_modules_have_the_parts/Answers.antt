use Rattle.pass_exits_proof.proofs.split.names.Parts.{has_parts}
use Rattle.pass_exits_proof.proofs.split.names.split_modules_have_the_parts.Goals as goal

pub returns : goal.returns
returns c = has_parts
