use Rattle.pass_frames_steps.proofs.allocating.Before.{early_followed}
use Rattle.pass_frames_steps.proofs.allocating.Framed.{framed_followed}
use Rattle.pass_frames_steps.proofs.allocating.Unseen.{hidden_followed}
use Rattle.pass_frames_steps.proofs.allocating.Plain.{plain_followed}
use Rattle.pass_frames_steps.proofs.allocating.Whole.{whole_followed}
use Rattle.pass_frames_steps.proofs.allocating.allocas_are_followed.Goals as goal

pub returns-clause-other : goal.returns-clause-other
returns-clause-other c = plain_followed

pub returns-clause-whole : goal.returns-clause-whole
returns-clause-whole c = whole_followed

pub returns-clause-hidden : goal.returns-clause-hidden
returns-clause-hidden c = hidden_followed

pub returns-clause-frame : goal.returns-clause-frame
returns-clause-frame c = framed_followed

pub returns-clause-early : goal.returns-clause-early
returns-clause-early c = early_followed
