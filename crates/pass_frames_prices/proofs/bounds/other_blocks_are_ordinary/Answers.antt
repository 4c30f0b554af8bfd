use Rattle.pass_frames_prices.proofs.bounds.Ordinary.{ordinary, ordinary_place}
use Rattle.pass_frames_prices.proofs.bounds.other_blocks_are_ordinary.Goals as goal

pub returns-clause-is : goal.returns-clause-is
returns-clause-is c = ordinary

pub returns-clause-place : goal.returns-clause-place
returns-clause-place c = ordinary_place
