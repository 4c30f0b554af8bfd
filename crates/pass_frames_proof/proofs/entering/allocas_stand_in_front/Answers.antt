use Rattle.pass_frames_proof.proofs.entering.Stand.{all_before, between, front_stands, none_behind}
use Rattle.pass_frames_proof.proofs.entering.allocas_stand_in_front.Goals as goal

pub returns-clause-stand : goal.returns-clause-stand
returns-clause-stand c = front_stands

pub returns-clause-none : goal.returns-clause-none
returns-clause-none c = none_behind

pub returns-clause-many : goal.returns-clause-many
returns-clause-many c = all_before

pub returns-clause-between : goal.returns-clause-between
returns-clause-between c = between
