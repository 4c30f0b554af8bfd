use Rattle.pass_elide_edges.proofs.Starts.{start_apart}
use Rattle.pass_elide_edges.proofs.starting.runs_start_apart.Goals as goal

pub returns : goal.returns
returns c = λ e entry args keeps plain. (start_apart e entry args keeps plain, tt)
