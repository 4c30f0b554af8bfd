use Rattle.pass_frames_meaning.proofs.others.Names.{no_distance, plain_by}
use Rattle.pass_frames_meaning.proofs.plain.results_have_plain_names.Goals as goal

pub returns-clause-names : goal.returns-clause-names
returns-clause-names c = plain_by

pub returns-clause-others : goal.returns-clause-others
returns-clause-others c = no_distance
