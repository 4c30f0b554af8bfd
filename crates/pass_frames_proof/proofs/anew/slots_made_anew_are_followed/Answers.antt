use Rattle.pass_frames_proof.proofs.anew.Last.{last_followed}
use Rattle.pass_frames_proof.proofs.anew.Next.{next_followed}
use Rattle.pass_frames_proof.proofs.anew.slots_made_anew_are_followed.Goals as goal

pub returns-clause-next : goal.returns-clause-next
returns-clause-next c = next_followed

pub returns-clause-last : goal.returns-clause-last
returns-clause-last c = last_followed
