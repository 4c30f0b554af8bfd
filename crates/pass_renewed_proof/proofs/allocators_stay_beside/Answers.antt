use Rattle.pass_renewed_proof.proofs.Allocating.{allocation_beside}
use Rattle.pass_renewed_proof.proofs.allocators_stay_beside.Goals as goal

pub returns : goal.returns
returns c = λ m flags roots keeps answers s t beside allocator result must_tail ty args is small v done.
    allocation_beside m flags roots keeps s t beside allocator result must_tail ty args is answers small v done
