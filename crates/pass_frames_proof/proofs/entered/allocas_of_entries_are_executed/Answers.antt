use Rattle.pass_frames_proof.proofs.entered.Allocas.{all_made, each_there, slots_differ, slots_new, some_made}
use Rattle.pass_frames_proof.proofs.entered.allocas_of_entries_are_executed.Goals as goal

pub returns-clause-executed : goal.returns-clause-executed
returns-clause-executed c = all_made

pub returns-clause-meanwhile : goal.returns-clause-meanwhile
returns-clause-meanwhile c = some_made

pub returns-clause-there : goal.returns-clause-there
returns-clause-there c = each_there

pub returns-clause-slots : goal.returns-clause-slots
returns-clause-slots c = slots_differ

pub returns-clause-new : goal.returns-clause-new
returns-clause-new c = slots_new
