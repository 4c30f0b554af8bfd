use Rattle.pass_split_proof.proofs.ready.Coroutine.{given_begin_ready}
use Rattle.pass_split_proof.proofs.ruled.ruled_given_begins_are_ready.Goals as goal

pub returns : goal.returns
returns c = λ stage r ls m w answers s t related. given_begin_ready ls m w answers s t related
