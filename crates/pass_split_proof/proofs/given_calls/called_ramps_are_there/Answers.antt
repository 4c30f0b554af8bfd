use Rattle.pass_split_proof.proofs.given_calls.Ramps.{called_given, given_callee, given_named}
use Rattle.pass_split_proof.proofs.given_calls.called_ramps_are_there.Goals as goal

pub returns-clause-given : goal.returns-clause-given
returns-clause-given c = called_given

pub returns-clause-callee : goal.returns-clause-callee
returns-clause-callee c = given_callee

pub returns-clause-named : goal.returns-clause-named
returns-clause-named c ls m answers k x gives names name e = given_named ls m answers k x gives names name e
