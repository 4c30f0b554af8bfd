use Rattle.pass_split_proof.proofs.ready.Globals.{globals_kept}
use Rattle.pass_split_proof.proofs.ready.globals_keep_their_contents.Goals as goal

pub returns : goal.returns
returns c = globals_kept
