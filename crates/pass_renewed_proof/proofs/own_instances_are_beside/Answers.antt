use Rattle.pass_renewed_proof.proofs.Owning.{found_beside, own_address_stands, own_beside}
use Rattle.pass_renewed_proof.proofs.own_instances_are_beside.Goals as goal

pub returns-clause-own : goal.returns-clause-own
returns-clause-own c = own_beside

pub returns-clause-address : goal.returns-clause-address
returns-clause-address c = own_address_stands

pub returns-clause-found : goal.returns-clause-found
returns-clause-found c = found_beside
