use Rattle.pass_elide_lacks.proofs.Bare.{named}
use Rattle.pass_elide_lacks.proofs.slots.elided_functions_name_allocas.Goals as goal

pub returns : goal.returns
returns c e func keeps ends k = named e keeps ends k func
