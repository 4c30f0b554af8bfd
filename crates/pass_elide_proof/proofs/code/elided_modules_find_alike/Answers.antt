use Rattle.pass_elide_proof.proofs.Modules.{finds_alike}
use Rattle.pass_elide_proof.proofs.code.elided_modules_find_alike.Goals as goal

pub returns : goal.returns
returns c = finds_alike
