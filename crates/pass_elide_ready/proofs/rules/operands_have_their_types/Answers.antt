use Rattle.pass_elide_ready.proofs.Modules.{types}
use Rattle.pass_elide_ready.proofs.rules.operands_have_their_types.Goals as goal

pub returns : goal.returns
returns c = types
