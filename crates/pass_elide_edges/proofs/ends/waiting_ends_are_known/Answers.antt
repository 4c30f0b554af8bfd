use Rattle.pass_elide_edges.proofs.Waits.{freed_known, way_on_known}
use Rattle.pass_elide_edges.proofs.ends.waiting_ends_are_known.Goals as goal

pub returns-clause-allocates : goal.returns-clause-allocates
returns-clause-allocates c = λ e s t r term keeps ends first apart runs there k stays given waits.
    way_on_known e keeps ends s t r first apart runs term there k stays given waits

pub returns-clause-frees : goal.returns-clause-frees
returns-clause-frees c = λ e s t r term keeps ends first apart runs there k stays given frees.
    freed_known e keeps ends s t r first apart runs term there k stays given frees
