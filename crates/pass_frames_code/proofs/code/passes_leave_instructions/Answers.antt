use Rattle.pass_frames_code.proofs.code.Idle.{cells_idle, copies_idle, each_idle, fetches_idle, only_idle}
use Rattle.pass_frames_code.proofs.code.passes_leave_instructions.Goals as goal

pub returns-clause-fetches : goal.returns-clause-fetches
returns-clause-fetches c = fetches_idle

pub returns-clause-cells : goal.returns-clause-cells
returns-clause-cells c = cells_idle

pub returns-clause-copies : goal.returns-clause-copies
returns-clause-copies c = copies_idle

pub returns-clause-only : goal.returns-clause-only
returns-clause-only c = only_idle

pub returns-clause-each : goal.returns-clause-each
returns-clause-each c = each_idle
