use Rattle.pass_elide_runs.proofs.TillEnd.{goes_in_runs}
use Rattle.pass_elide_runs.proofs.ends.instances_go_on_till_the_end.Goals as goal

pub returns : goal.returns
returns c g entry args n switches plain fine = goes_in_runs g switches entry args plain n fine
