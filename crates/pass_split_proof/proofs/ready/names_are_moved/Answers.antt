use Rattle.pass_split_proof.proofs.ready.Moved.{cleanup_untaken, names_moved}
use Rattle.pass_split_proof.proofs.ready.names_are_moved.Goals as goal

pub returns-clause-moved : goal.returns-clause-moved
returns-clause-moved c = names_moved

pub returns-clause-untaken : goal.returns-clause-untaken
returns-clause-untaken c = cleanup_untaken
