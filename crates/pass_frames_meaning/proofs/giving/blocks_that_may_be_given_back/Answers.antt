use Rattle.pass_frames_meaning.proofs.giving.Giving.{given_back}
use Rattle.pass_frames_meaning.proofs.giving.blocks_that_may_be_given_back.Goals as goal

pub returns : goal.returns
returns c = given_back
