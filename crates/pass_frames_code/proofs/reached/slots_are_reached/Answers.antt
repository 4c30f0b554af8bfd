use Rattle.pass_frames_code.proofs.reached.Slots.{address_stands, can_reach}
use Rattle.pass_frames_code.proofs.reached.slots_are_reached.Goals as goal

pub returns-clause-can : goal.returns-clause-can
returns-clause-can z = λ x c w block start n v begun old near. can_reach x c w block start n v begun old near

pub returns-clause-stand : goal.returns-clause-stand
returns-clause-stand z = address_stands
