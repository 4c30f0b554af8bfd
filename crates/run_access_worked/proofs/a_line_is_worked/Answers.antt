use Rattle.run_access_worked.proofs.Stores.{line_runs}
use Rattle.run_access_worked.proofs.a_line_is_worked.Goals as goal

pub returns : goal.returns
returns c = line_runs
