use Rattle.pass_elide_ready.proofs.Keepers.{keeps_runs}
use Rattle.pass_elide_ready.proofs.records.forms_keep_runs.Goals as goal

pub returns : goal.returns
returns c = keeps_runs
