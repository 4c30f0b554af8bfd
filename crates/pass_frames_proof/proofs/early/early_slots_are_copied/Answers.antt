use Rattle.pass_frames_proof.proofs.early.Copies.{slots_copied}
use Rattle.pass_frames_proof.proofs.early.early_slots_are_copied.Goals as goal

pub returns : goal.returns
returns c = slots_copied
