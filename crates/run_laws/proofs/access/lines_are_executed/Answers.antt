use Rattle.run_laws.proofs.access.Lines.{runs_line}
use Rattle.run_laws.proofs.access.lines_are_executed.Goals as goal

pub returns : goal.returns
returns g c = runs_line
