use Rattle.compiler_theorem.proofs.theorem.Begins.{begun_once}
use Rattle.compiler_theorem.proofs.theorem.begin_gives_its_name_once.Goals as goal

pub returns : goal.returns
returns c = begun_once
