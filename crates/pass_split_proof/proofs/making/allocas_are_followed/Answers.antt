use Rattle.pass_split_proof.proofs.making.Allocas.{alloca_followed}
use Rattle.pass_split_proof.proofs.making.allocas_are_followed.Goals as goal

pub returns : goal.returns
returns c = alloca_followed
