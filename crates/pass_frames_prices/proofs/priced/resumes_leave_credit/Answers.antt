use Rattle.pass_frames_prices.proofs.priced.Left.{resume_leaves}
use Rattle.pass_frames_prices.proofs.priced.resumes_leave_credit.Goals as goal

pub returns : goal.returns
returns c = resume_leaves
