use Rattle.pass_frames_steps.proofs.asking.Finals.{final_same, has_final_same}
use Rattle.pass_frames_steps.proofs.asking.suspends_stay_final.Goals as goal

pub returns-clause-one : goal.returns-clause-one
returns-clause-one c = final_same

pub returns-clause-any : goal.returns-clause-any
returns-clause-any c = has_final_same
