use Rattle.pass_split_proof.proofs.making.Allocators.{allocator_followed}
use Rattle.pass_split_proof.proofs.making.allocators_are_followed.Goals as goal

pub returns : goal.returns
returns c = allocator_followed
