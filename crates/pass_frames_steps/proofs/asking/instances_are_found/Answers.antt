use Rattle.pass_frames_steps.proofs.asking.Found.{address_stands, instance_found, own_found, sleeper_found}
use Rattle.pass_frames_steps.proofs.asking.instances_are_found.Goals as goal

pub returns-clause-own : goal.returns-clause-own
returns-clause-own c = own_found

pub returns-clause-address : goal.returns-clause-address
returns-clause-address c = address_stands

pub returns-clause-there : goal.returns-clause-there
returns-clause-there c = instance_found

pub returns-clause-asleep : goal.returns-clause-asleep
returns-clause-asleep c = sleeper_found
