use Rattle.pass_elide_kept.proofs.Starts.{first_keepers, first_kept}
use Rattle.pass_elide_kept.proofs.starting.runs_start_kept.Goals as goal

pub returns-clause-keepers : goal.returns-clause-keepers
returns-clause-keepers c = first_keepers

pub returns-clause-kept : goal.returns-clause-kept
returns-clause-kept c = first_kept
