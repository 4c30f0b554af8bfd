use Rattle.pass_frames_proof.proofs.entered.Front.{entry_stored}
use Rattle.pass_frames_proof.proofs.entered.fronts_of_entries_are_stored.Goals as goal

pub returns : goal.returns
returns c = entry_stored
