use Rattle.pass_split_proof.proofs.ready.Entries.{entry_moves}
use Rattle.pass_split_proof.proofs.ready.entries_move.Goals as goal

pub returns : goal.returns
returns c = entry_moves
