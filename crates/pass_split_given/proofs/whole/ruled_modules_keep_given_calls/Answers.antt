use Rattle.pass_split_given.proofs.Ruled.{ruled_calls_kept}
use Rattle.pass_split_given.proofs.whole.ruled_modules_keep_given_calls.Goals as goal

pub returns : goal.returns
returns c = λ stage r ls m w ramps nests releases. ruled_calls_kept ls m w ramps nests releases
