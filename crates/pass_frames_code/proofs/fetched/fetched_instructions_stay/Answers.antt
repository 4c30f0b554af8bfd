use Rattle.pass_frames_code.proofs.fetched.Shapes.{instr_stays, term_stays}
use Rattle.pass_frames_code.proofs.fetched.fetched_instructions_stay.Goals as goal

pub returns-clause-instr : goal.returns-clause-instr
returns-clause-instr c = instr_stays

pub returns-clause-term : goal.returns-clause-term
returns-clause-term c = term_stays
