use Rattle.pass_frames_code.proofs.code.Instrs.{instr_code}
use Rattle.pass_frames_code.proofs.code.Left.{parts_left}
use Rattle.pass_frames_code.proofs.code.parts_are_left.Goals as goal
use Rattle.pass_frames_code.specs.Layers.{state_at}
use Rattle.pass_frames_code.specs.Places.{instrs_at, placed_layer}

pub returns-clause-left : goal.returns-clause-left
returns-clause-left c = parts_left

pub returns-clause-code : goal.returns-clause-code
returns-clause-code c = λ x is k at i e.
    instr_code x k (state_at (placed_layer x k) (instrs_at x k) at) i (parts_left x is k at i e)
