use Rattle.pass_frames_meaning.proofs.pointers.Storables.{results_stored, storables}
use Rattle.pass_frames_meaning.proofs.pointers.kept_names_are_storable.Goals as goal

pub returns-clause-kept : goal.returns-clause-kept
returns-clause-kept c = storables

pub returns-clause-given : goal.returns-clause-given
returns-clause-given c = results_stored
