use Rattle.pass_proofs.proofs.frames.begin_order.Copied.{addresses_fit}
use Rattle.pass_proofs.proofs.frames.begin_order.copied_frames_lie_behind_begin.Goals as goal

pub returns : goal.returns
returns c = addresses_fit
