use Rattle.run_laws.proofs.embedded.Deallocated.{deallocation_carried}
use Rattle.run_laws.proofs.embedded.deallocations_are_carried.Goals as goal

pub returns : goal.returns
returns c = deallocation_carried
