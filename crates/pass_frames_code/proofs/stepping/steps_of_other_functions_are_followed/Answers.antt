use Rattle.pass_frames_code.proofs.stepping.Called.{call_followed}
use Rattle.pass_frames_code.proofs.stepping.Other.{branch_followed}
use Rattle.pass_frames_code.proofs.stepping.Others.{other_followed, other_store_followed}
use Rattle.pass_frames_code.proofs.stepping.steps_of_other_functions_are_followed.Goals as goal

pub returns-clause-ordinary : goal.returns-clause-ordinary
returns-clause-ordinary c = other_followed

pub returns-clause-store : goal.returns-clause-store
returns-clause-store c = other_store_followed

pub returns-clause-branch : goal.returns-clause-branch
returns-clause-branch c = branch_followed

pub returns-clause-call : goal.returns-clause-call
returns-clause-call c = call_followed
