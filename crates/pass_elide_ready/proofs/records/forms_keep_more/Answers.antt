use Rattle.pass_elide_ready.proofs.Keepers.{keeps_more}
use Rattle.pass_elide_ready.proofs.records.forms_keep_more.Goals as goal

pub returns : goal.returns
returns c = keeps_more
