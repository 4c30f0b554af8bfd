use Rattle.pass_frames_steps.proofs.heaps.Steps.{value_back}
use Rattle.pass_frames_steps.proofs.heaps.blocks_are_given_back.Goals as goal

pub returns : goal.returns
returns c = λ b g given s t r. value_back b s t r given.framings
