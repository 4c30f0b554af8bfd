use Rattle.pass_exits_proof.proofs.split.crossing.Crossed.{only_these}
use Rattle.pass_exits_proof.proofs.split.crossing.only_what_each_part_has_anew_crosses.Goals as goal

pub returns : goal.returns
returns c m k g begin rules coroutine calls named nothing frames = only_these m k g rules coroutine calls begin named nothing frames
