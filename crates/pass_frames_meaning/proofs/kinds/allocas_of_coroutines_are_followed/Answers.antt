use Rattle.pass_frames_meaning.proofs.kinds.Allocas.{alloca_at}
use Rattle.pass_frames_meaning.proofs.kinds.allocas_of_coroutines_are_followed.Goals as goal

pub returns : goal.returns
returns c = alloca_at
