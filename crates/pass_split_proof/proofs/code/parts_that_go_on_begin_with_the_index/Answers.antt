use Rattle.pass_split_proof.proofs.code.Entries.{later_entry}
use Rattle.pass_split_proof.proofs.code.parts_that_go_on_begin_with_the_index.Goals as goal

pub returns : goal.returns
returns c = later_entry
