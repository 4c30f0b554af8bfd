use Rattle.run_laws.proofs.access.Touched.{free_stays}
use Rattle.run_laws.proofs.access.free_bytes_stay.Goals as goal

pub returns : goal.returns
returns c = free_stays
