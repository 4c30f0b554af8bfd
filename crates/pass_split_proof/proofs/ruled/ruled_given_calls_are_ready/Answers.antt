use Rattle.pass_split_proof.proofs.ready.GivenCalls.{given_call_ready}
use Rattle.pass_split_proof.proofs.ruled.ruled_given_calls_are_ready.Goals as goal

pub returns : goal.returns
returns c = λ stage r ls m w ramps answers. given_call_ready ls m w ramps answers
