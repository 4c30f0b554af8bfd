use Rattle.pass_elide_edges.proofs.Freeing.{the_test, worked_freeing}
use Rattle.pass_elide_edges.proofs.starting.the_worked_function_keeps_freeing.Goals as goal

pub returns : goal.returns
returns c = (the_test, worked_freeing)
