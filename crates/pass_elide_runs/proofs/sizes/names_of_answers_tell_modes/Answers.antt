use Rattle.pass_elide_runs.proofs.SizeNames.{answers_in_runs}
use Rattle.pass_elide_runs.proofs.sizes.names_of_answers_tell_modes.Goals as goal

pub returns : goal.returns
returns c g entry args n begins fine v given = (answers_in_runs g begins entry args n fine).0 v given
