use Rattle.pass_split_proof.proofs.given_begins.Runs.{block_begin_followed}
use Rattle.pass_split_proof.proofs.given_begins.begins_in_given_blocks_are_followed.Goals as goal

pub returns : goal.returns
returns c = block_begin_followed
