use Rattle.pass_elide_ready.proofs.Keepers.{keeps_handles_and_ends}
use Rattle.pass_elide_ready.proofs.records.forms_keep_handles_and_ends.Goals as goal

pub returns : goal.returns
returns c = keeps_handles_and_ends
