use Rattle.pass_frames_prices.proofs.bounds.Jumps.{other_jump, return_jump}
use Rattle.pass_frames_prices.proofs.bounds.jumps_take_few_steps.Goals as goal

pub returns-clause-others : goal.returns-clause-others
returns-clause-others c = other_jump

pub returns-clause-returns : goal.returns-clause-returns
returns-clause-returns c = return_jump
