use Rattle.pass_elide_ready.proofs.Modules.{ends}
use Rattle.pass_elide_ready.proofs.rules.ends_stand_in_end_blocks.Goals as goal

pub returns : goal.returns
returns c e ruled = ends e.code ruled
