use Rattle.pass_elide_edges.proofs.Starts.{elided_start, framed_start, start_apart}
use Rattle.pass_elide_edges.proofs.starting.runs_start_at_known_ends.Goals as goal

pub returns-clause-framed : goal.returns-clause-framed
returns-clause-framed c = λ e entry args keeps plain. framed_start e entry args keeps plain

pub returns-clause-elided : goal.returns-clause-elided
returns-clause-elided c = λ e entry args keeps plain. elided_start e entry args keeps plain

pub returns-clause-apart : goal.returns-clause-apart
returns-clause-apart c = λ e entry args keeps plain. start_apart e entry args keeps plain
