use Rattle.pass_frames_code.proofs.code.Instrs.{instr_code}
use Rattle.pass_frames_code.proofs.code.instructions_become_their_parts.Goals as goal

pub returns : goal.returns
returns c = instr_code
