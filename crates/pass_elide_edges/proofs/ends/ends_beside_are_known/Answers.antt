use Rattle.pass_elide_edges.proofs.Known.{beside_known}
use Rattle.pass_elide_edges.proofs.ends.ends_beside_are_known.Goals as goal

pub returns : goal.returns
returns c = λ e s t r term keeps ends first second apart runs fine there beside stands.
    beside_known e keeps ends s t r first second apart r.passed.0 runs fine term there beside stands
