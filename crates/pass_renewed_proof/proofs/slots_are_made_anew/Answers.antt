use Rattle.pass_renewed_proof.proofs.Entering.{entering_run, entering_step}
use Rattle.pass_renewed_proof.proofs.EnteredValues.{made_length, made_values, other_values}
use Rattle.pass_renewed_proof.proofs.slots_are_made_anew.Goals as goal

pub returns-clause-one : goal.returns-clause-one
returns-clause-one c = entering_step

pub returns-clause-all : goal.returns-clause-all
returns-clause-all c = entering_run

pub returns-clause-anew : goal.returns-clause-anew
returns-clause-anew c = made_values

pub returns-clause-others : goal.returns-clause-others
returns-clause-others c = other_values

pub returns-clause-room : goal.returns-clause-room
returns-clause-room c = made_length
