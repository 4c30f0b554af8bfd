use Rattle.pass_elide_edges.proofs.Waits.{aside_known}
use Rattle.pass_elide_edges.proofs.ends.ends_aside_are_known.Goals as goal

pub returns : goal.returns
returns c = λ e s t r term keeps ends first apart runs there k given aside at made.
    aside_known e keeps ends s t r first apart runs term there k given aside at made
