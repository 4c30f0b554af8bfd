use Rattle.pass_split_given.proofs.Agreeing.{given_calls_agree}
use Rattle.pass_split_given.proofs.whole.given_calls_of_parts_bound_steps.Goals as goal

pub returns : goal.returns
returns c = given_calls_agree
