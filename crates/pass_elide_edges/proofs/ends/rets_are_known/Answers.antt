use Rattle.pass_elide_edges.proofs.Rets.{rets_known}
use Rattle.pass_elide_edges.proofs.ends.rets_are_known.Goals as goal

pub returns : goal.returns
returns c = λ e s t r value keeps first second runs there beside stands.
    rets_known e keeps s t r first second runs value there beside stands
