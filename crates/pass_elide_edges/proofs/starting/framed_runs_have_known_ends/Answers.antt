use Rattle.pass_elide_edges.proofs.Runs.{framed_ends}
use Rattle.pass_elide_edges.proofs.starting.framed_runs_have_known_ends.Goals as goal

pub returns : goal.returns
returns c = λ e entry args n keeps nests. framed_ends e keeps entry args n nests
