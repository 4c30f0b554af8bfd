use Rattle.compiler_theorem.proofs.apart.Begun.{begun_apart}
use Rattle.compiler_theorem.proofs.apart.slots_lie_apart_where_begin_stands.Goals as goal

pub returns : goal.returns
returns c = begun_apart
