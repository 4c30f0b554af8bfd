use Rattle.pass_elide_proof.proofs.ReleasedBeside.{freed_own}
use Rattle.pass_elide_proof.proofs.releasing.freed_blocks_hold_no_given_frame.Goals as goal

pub returns : goal.returns
returns c = freed_own
