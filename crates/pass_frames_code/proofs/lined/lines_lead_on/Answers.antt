use Rattle.pass_frames_code.proofs.lined.Lines.{line_between, line_last}
use Rattle.pass_frames_code.proofs.lined.lines_lead_on.Goals as goal

pub returns-clause-last : goal.returns-clause-last
returns-clause-last c = line_last

pub returns-clause-between : goal.returns-clause-between
returns-clause-between c = line_between
